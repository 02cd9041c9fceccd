-- Kinds of errors.
use Rattle.std.proofs.Common.{◌≡◌, false, [], ◌∷◌, refl}
use Rattle.clap.specs.declared.error.ErrorKind.{ErrorKind}
use Rattle.clap.specs.Kinds.{IsAmong, Kinds}
use Rattle.command_words.specs.Command.{is_faultless}

-- where there is a kind, there are some
pub some_kinds : (k : ErrorKind) (ks : Kinds) → IsAmong k ks → is_faultless ks ≡ false
some_kinds k [] among = absurd among
some_kinds k (x ∷ xs) among = refl
