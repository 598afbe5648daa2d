-- A message is read back from its bytes.
use Rattle.std.proofs.Common.{◌≡◌, ◌≢◌, ◌∙◌, ℕ, List, [], ◌∷◌, refl, sym, ap, Some, None}
use Rattle.std.proofs.lemmas.List.{append-nil}
use Rattle.std.specs.Prelude.{Result, Ok, Err}
use Rattle.arj_core.specs.Steps.{message_of, whole_message}
use Rattle.arj_msg.specs.Layout.{MessageInForm, message, message_bytes}
use Rattle.arj_msg.proofs.Laws.{IsBytes}
use Rattle.arj_msg.proofs.MessageLaws.{message_lawful}
use Rattle.arj_protocol.specs.Words.{Message, read_message}

pub message_back : (m : Message) → MessageInForm m → message_of (message_bytes m) ≡ Some m
unfolding read_message
message_back m fits =
    ap (λ bytes. whole_message (message.read bytes)) (sym (append-nil (message_bytes m))) ∙ ap whole_message (message_lawful.again m [] fits)

pub no_message : (bytes : List ℕ) → IsBytes bytes → ((m : Message) → MessageInForm m → message_bytes m ≢ bytes) → message_of bytes ≡ None
unfolding read_message
no_message bytes are none = by (message.read bytes) refl
  where
    by : (r : Result (Message × List ℕ) ℕ) → message.read bytes ≡ r → whole_message r ≡ None
    by (Err n) is = refl
    by (Ok (m, b ∷ rest)) is = refl
    by (Ok (m, [])) is =
        let found = message_lawful.found bytes m [] are is in absurd (none m found.0 (sym (found.1 ∙ append-nil (message_bytes m))))
