-- The command line.
use Rattle.std.specs.Prelude.{ℕ, ◌≡◌, ◌≢◌, ◌⊎◌, ◌<◌, List, [], ◌∷◌, String, codes, get_or, length}
use Rattle.std.specs.Fmt.{decimal}
use Rattle.std.specs.String.{string_bytes}
use Rattle.std.specs.declared.alloc.Global.{Global}
use Rattle.arj_command.specs.declared.words.Command.{Command}
use Rattle.arj_command.specs.declared.words.Command.TheVariants as command

-- it is the one word `replay`
abbrev pub IsReplay : List (String Global) → Type 0
IsReplay (word ∷ []) = string_bytes word ≡ codes "replay"
IsReplay _ = ⊥

-- it is the one word `check`
abbrev pub IsCheck : List (String Global) → Type 0
IsCheck (word ∷ []) = string_bytes word ≡ codes "check"
IsCheck _ = ⊥

-- it is the one word `program`
abbrev pub IsProgram : List (String Global) → Type 0
IsProgram (word ∷ []) = string_bytes word ≡ codes "program"
IsProgram _ = ⊥

-- it is the one word `audit`
abbrev pub IsAudit : List (String Global) → Type 0
IsAudit (word ∷ []) = string_bytes word ≡ codes "audit"
IsAudit _ = ⊥

-- it is the one word `image`
abbrev pub IsImage : List (String Global) → Type 0
IsImage (word ∷ []) = string_bytes word ≡ codes "image"
IsImage _ = ⊥

-- it is the word `generate` and this text
abbrev pub NamesBank : List (String Global) → List ℕ → Type 0
NamesBank (word ∷ number ∷ []) text = (string_bytes word ≡ codes "generate") × (string_bytes number ≡ text)
NamesBank _ text = ⊥

-- how many banks there are: one for each number of 32 bits
abbrev pub most_banks : ℕ
most_banks = 4294967296

-- it is the word `generate` and the number of a bank, in decimal without leading zeros
abbrev pub IsGenerate : List (String Global) → ℕ → Type 0
IsGenerate words n = (n < most_banks) × NamesBank words (decimal n)

-- it is one of the six
abbrev pub IsCommand : List (String Global) → Type 0
IsCommand words = IsReplay words ⊎ (IsCheck words ⊎ (IsProgram words ⊎ (IsAudit words ⊎ (IsImage words ⊎ ((n : ℕ) × IsGenerate words n)))))

-- what the words ask for
abbrev pub Says : List (String Global) → Command → Type 0
Says words command.Replay = IsReplay words
Says words (command.Bank n) = IsGenerate words n
Says words command.Check = IsCheck words
Says words command.Program = IsProgram words
Says words command.Audit = IsAudit words
Says words command.Image = IsImage words
Says words command.None = IsCommand words → ⊥

-- the text begins with no `+`, and with a zero only where that is all of it
abbrev pub IsPlain : List ℕ → Type 0
IsPlain bytes = (0 < length bytes) × (get_or bytes 0 0 ≢ 43) × (get_or bytes 0 0 ≡ 48 → length bytes ≡ 1)
