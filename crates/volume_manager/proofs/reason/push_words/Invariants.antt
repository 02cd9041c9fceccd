use Rattle.std.proofs.Common.{◌≡◌, ◌++◌, take}
use Rattle.std.specs.List.{flat_map}
use Rattle.volume_manager.specs.Lines.{number_text}
use Rattle.volume_manager.proofs.reason.push_words.Given as goal

abbrev pub invariant-loop-number : goal.invariant-loop-number
invariant-loop-number l = l.text.items ≡ l.fn.text.items ++ (l.word ++ flat_map number_text (take l.number-index l.numbers))
