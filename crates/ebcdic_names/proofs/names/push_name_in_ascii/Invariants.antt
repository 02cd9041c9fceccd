use Rattle.std.proofs.Common.{◌≡◌, ◌+◌, ◌-◌, ◌≤◌, ◌++◌, length, take, map, vec_len, vec_capacity}
use Rattle.ebcdic_names.specs.CodePage.{ascii_of}
use Rattle.ebcdic_names.proofs.names.push_name_in_ascii.Given as goal

abbrev pub invariant-loop-byte : goal.invariant-loop-byte
invariant-loop-byte l = record {
  added : l.text.items ≡ l.initial.text.items ++ map ascii_of (take l.byte-index l.characters);
  room : vec_len l.text + (length l.characters - l.byte-index) ≤ vec_capacity l.text;
}
