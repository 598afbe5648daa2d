-- What is handed back, one behind the other.
use Rattle.std.proofs.Common.{◌≡◌, ◌∙◌, ℕ, List, [], ◌∷◌, ◌++◌, sym, ap}
use Rattle.std.proofs.lemmas.List.{append-nil, append_assoc, map-append}
use Rattle.arj_node.specs.Outgoing.{Tells, effect_of, effects_of, loud}
use Rattle.arj_node.specs.declared.outgoing.Outgoing.{Outgoing}
use Rattle.arj_node.specs.declared.outgoing.Outgoing.TheVariants as of
use Rattle.arj_parts.proofs.Performed.{loud_both}
use Rattle.arj_protocol.specs.Effect.{Effect, Say, Send}
use Rattle.arj_protocol.specs.Words.{Body, Message}

-- one more is handed back
pub one_more : (o : Outgoing) (a b : List Outgoing) → b ≡ a ++ o ∷ [] → effects_of b ≡ effects_of a ++ effect_of o ∷ []
one_more o a b are = ap effects_of are ∙ map-append effect_of a (o ∷ [])

-- what is left behind it, and behind what was there before
pub say_step : (b : Body) (rest : List Effect) (was now : List Outgoing) → now ≡ was ++ of.Say b ∷ [] →
    effects_of now ++ rest ≡ effects_of was ++ Say b ∷ rest
say_step b rest was now are = ap (λ es. es ++ rest) (one_more (of.Say b) was now are) ∙ append_assoc (effects_of was) (Say b ∷ []) rest

pub sent_one : (to : ℕ) (m : Message) (a b : List Outgoing) → b ≡ a ++ of.Send to m ∷ [] → effects_of b ≡ effects_of a ++ Send to m ∷ []
sent_one to m a b are = one_more (of.Send to m) a b are

pub nothing_more : (a : List Outgoing) → effects_of a ≡ effects_of a ++ []
nothing_more a = sym (append-nil (effects_of a))

-- what is left of a coordinator's effects likewise, but for work
pub tell_step : (e : Effect) (rest : List Effect) (was now : List Outgoing) → Tells (e ∷ []) was now →
    effects_of now ++ loud rest ≡ effects_of was ++ loud (e ∷ rest)
tell_step e rest was now tells =
    ap (λ es. es ++ loud rest) tells ∙ (append_assoc (effects_of was) (loud (e ∷ [])) (loud rest) ∙ ap (λ es. effects_of was ++ es) (sym (loud_both (e ∷ []) rest)))
