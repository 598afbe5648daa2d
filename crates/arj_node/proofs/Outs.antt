-- What is put out and what waits, one effect behind the other.
use Rattle.std.proofs.Common.{◌≡◌, ◌∙◌, ℕ, ◌==◌, true, false, cond, List, [], ◌∷◌, ◌++◌, refl, sym, ap, subst}
use Rattle.std.proofs.lemmas.List.{append_assoc}
use Rattle.arj_core.specs.declared.output.Output.{Output}
use Rattle.arj_core.specs.declared.output.Output.TheVariants as output
use Rattle.arj_core.specs.Steps.{PutsOut, Sent, message_of}
use Rattle.arj_msg.specs.Layout.{MessageInForm, message_bytes}
use Rattle.arj_node.specs.Ran.{inward, outward}
use Rattle.arj_node.proofs.Lists.{in_behind, out_behind, puts_more}
use Rattle.arj_node.proofs.Spelled.{message_back}
use Rattle.arj_protocol.specs.Ask.{frame_kind}
use Rattle.arj_protocol.specs.Effect.{Effect, Say, Send}
use Rattle.arj_protocol.specs.Words.{Body, FrameKind, Message}

pub sent_one : (to : ℕ) (m : Message) (kind : FrameKind) (bytes : List ℕ) (a b : List Output) → MessageInForm m → bytes ≡ message_bytes m →
    kind ≡ frame_kind m → b ≡ a ++ output.Send to kind bytes ∷ [] → PutsOut (Send to m ∷ []) a b
sent_one to m kind bytes a b fits is same are = record {
  added = output.Send to kind bytes ∷ [];
  are = are;
  seen_so = λ i. Sent to (same i) ((ap message_of is ∙ message_back m fits) i) ∷ [];
}

pub said_one : (body : Body) (a b : List Output) → b ≡ a ++ output.Say body ∷ [] → PutsOut (Say body ∷ []) a b
said_one body a b are = record { added = output.Say body ∷ []; are = are; seen_so = refl }

-- a message to the node itself, or to another one
pub own_out : (n to : ℕ) (m : Message) → (to == n) ≡ true → outward n (Send to m ∷ []) ≡ []
own_out n to m is = λ i. cond (is i) [] (Send to m ∷ [])

pub own_in : (n to : ℕ) (m : Message) → (to == n) ≡ true → inward n (Send to m ∷ []) ≡ m ∷ []
own_in n to m is = λ i. cond (is i) (m ∷ []) []

pub other_out : (n to : ℕ) (m : Message) → (to == n) ≡ false → outward n (Send to m ∷ []) ≡ Send to m ∷ []
other_out n to m isnt = λ i. cond (isnt i) [] (Send to m ∷ [])

pub other_in : (n to : ℕ) (m : Message) → (to == n) ≡ false → inward n (Send to m ∷ []) ≡ []
other_in n to m isnt = λ i. cond (isnt i) (m ∷ []) []

pub put_step : (n : ℕ) (one : Effect) (es : List Effect) (a b c : List Output) → PutsOut (outward n (one ∷ [])) a b →
    PutsOut (outward n es) b c → PutsOut (outward n (one ∷ es)) a c
put_step n one es a b c first rest =
    subst (λ xs. PutsOut xs a c) (sym (out_behind n (one ∷ []) es)) (puts_more (outward n (one ∷ [])) (outward n es) a b c first rest)

pub queue_step : (n : ℕ) (one : Effect) (es : List Effect) (q0 q1 : List Message) → q1 ≡ q0 ++ inward n (one ∷ []) →
    q1 ++ inward n es ≡ q0 ++ inward n (one ∷ es)
queue_step n one es q0 q1 is =
    ap (λ q. q ++ inward n es) is ∙ (append_assoc q0 (inward n (one ∷ [])) (inward n es) ∙ ap (λ xs. q0 ++ xs) (sym (in_behind n (one ∷ []) es)))
