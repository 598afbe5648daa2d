-- The answer to a prepare.
use Rattle.std.proofs.Common.{◌≡◌, ◌⊎◌, List, [], ◌∷◌, sym, subst, inl, inr, ⊎_elim, None}
use Rattle.std.specs.List.{AllByRecursion}
use Rattle.arj_base.specs.declared.state.ObjectState.{ObjectState}
use Rattle.arj_base.specs.declared.uid.Uid.{Uid}
use Rattle.arj_disk.specs.FileMap.{FileMap}
use Rattle.arj_disk.specs.declared.slot.Role.{Role}
use Rattle.arj_store.specs.Pair.{Adds, AnswersPrepare, InDoubt, IsClear, IsRefused, Pair, Prepares, Refuses, SamePair}
use Rattle.arj_store.specs.declared.answer.Prep.{Prep}
use Rattle.arj_store.specs.declared.answer.Prep.TheVariants as prep
use Rattle.arj_segment.proofs.Changes.{pair_itself}
use Rattle.arj_segment.specs.Says.{pair_of, pend}

pub all_free : (p : Pair) (act : Uid) (states : List ObjectState) → AllByRecursion (IsClear p act) states →
    AllByRecursion (λ s. InDoubt p s.uid → ⊥) states
all_free p act [] clear = tt
all_free p act (s ∷ ss) clear = (clear.0.free, all_free p act ss clear.1)

-- a refusal is none of the answers Prepared
never : (p : Pair) (act : Uid) (states : List ObjectState) → IsRefused p act states prep.Prepared → ⊥
never p act [] is = is
never p act (s ∷ ss) is =
    ⊎_elim (λ (h : Refuses p act s prep.Prepared). h) (λ (h : IsClear p act s × IsRefused p act ss prep.Prepared). never p act ss h.1) is

pub answers_refusal : (role : Role) (old new : FileMap) (act : Uid) (states : List ObjectState) (answer : Prep) → pend old role act ≡ None →
    IsRefused (pair_of old role) act states answer → new ≡ old → AnswersPrepare (pair_of old role) (pair_of new role) act states answer
answers_refusal role old new act states prep.Prepared first refused same = absurd (never (pair_of old role) act states refused)
answers_refusal role old new act states (prep.Already uid by) first refused same =
    (first, refused, subst (λ f. SamePair (pair_of old role) (pair_of f role)) (sym same) (pair_itself role old))
answers_refusal role old new act states (prep.Old uid v) first refused same =
    (first, refused, subst (λ f. SamePair (pair_of old role) (pair_of f role)) (sym same) (pair_itself role old))
answers_refusal role old new act states (prep.InDoubt uid holder) first refused same =
    (first, refused, subst (λ f. SamePair (pair_of old role) (pair_of f role)) (sym same) (pair_itself role old))

-- a fault of the put, over a read that changed nothing
pub fault_on : (role : Role) (old mid new : FileMap) (act : Uid) (states there : List ObjectState) → pend old role act ≡ None →
    AllByRecursion (IsClear (pair_of old role) act) states → there ≡ states → mid ≡ old
    → SamePair (pair_of mid role) (pair_of new role) ⊎ Adds (pair_of mid role) (pair_of new role) act there →
    SamePair (pair_of old role) (pair_of new role) ⊎ Prepares (pair_of old role) (pair_of new role) act states
fault_on role old mid new act states there first clear is same = ⊎_elim
    (λ (h : SamePair (pair_of mid role) (pair_of new role)). inl (subst (λ f. SamePair (pair_of f role) (pair_of new role)) same h))
    (λ (h : Adds (pair_of mid role) (pair_of new role) act there). inr (record {
      first = first;
      clear = clear;
      adds =
          subst (λ f. Adds (pair_of f role) (pair_of new role) act states) same (subst (Adds (pair_of mid role) (pair_of new role) act) is h);
    }))
