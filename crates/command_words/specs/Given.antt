-- The parts of a command line, as the program holds them.
use Rattle.std.specs.Prelude.{List, map, option_map}
use Rattle.command_words.specs.declared.command.Given.{Given}
use Rattle.command_words.specs.Command.{Parts}

abbrev pub parts_in : Given → Parts
parts_in g = record {
  action = option_map (λ s. s.now) g.action;
  date = option_map (λ s. s.now) g.date;
  device = option_map (λ s. s.now) g.device;
  serial = option_map (λ s. s.now) g.serial;
  vtoc = option_map (λ s. s.now) g.vtoc;
  cylinders = option_map (λ s. s.now) g.cylinders;
  count = option_map (λ s. s.now) g.count;
  files = map (λ s. s.now) g.files.items;
}
