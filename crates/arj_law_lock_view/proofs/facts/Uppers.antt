-- A nested action has nothing at naming, in every run.
use Rattle.arj_law_parts.proofs.Words
use Words.{◌≡◌, ◌∙◌, ℕ, true, false, List, [], ◌∷◌, ap, ⊎_elim, inr, Contains, AllByRecursion, false_from_ne_true, or_cases, uid_is}
use Words.{in_from, in_to, Uid, is_on, uid_eq, Named, Naming}
use Words.kind
use Rattle.arj_law_lock_view.proofs.Terms
use Terms.{Action, AreBegun, act_of, IsTopAction, one_action, all_found, AreUpper, HaveUpper, HoldsUppers, IsTopOf}
use Rattle.arj_law_lock_view.proofs.facts
use facts.UpperRows.{path_asks, top_asks, uppers_bind, uppers_confirm, uppers_hello, uppers_note, uppers_recovered, uppers_told}
use facts.UpperWalks.{IsHeld, top_more}
use Rattle.arj_law_lock_view.specs.facts.Uppers.{NestedHaveNothing}

upper_more : (a : Action) (acts : List Action) (us : List Uid) → AreUpper acts us → AreUpper (a ∷ acts) us
upper_more a acts [] its = tt
upper_more a acts (u ∷ us) its = let b = its.0 in
    ((b.0, in_to b.0 (a ∷ acts) (inr (in_from b.0 acts b.1)), b.2, b.3), upper_more a acts us its.1)

pub uppers_more : (a : Action) (acts : List Action) (n : Naming) → HoldsUppers acts n → HoldsUppers (a ∷ acts) n
uppers_more a acts n its = record { confirmed = tops n.confirmed its.confirmed; rows = by n.objects its.rows }
  where
    tops : (us : List Uid) → AllByRecursion (IsTopOf acts) us → AllByRecursion (IsTopOf (a ∷ acts)) us
    tops [] all = tt
    tops (u ∷ us) all = (top_more a acts u all.0, tops us all.1)

    by : (es : List (ℕ × Named)) → AllByRecursion (λ (e : ℕ × Named). HaveUpper acts (let o = e.1 in o.rows)) es →
        AllByRecursion (λ (e : ℕ × Named). HaveUpper (a ∷ acts) (let o = e.1 in o.rows)) es
    by [] all = tt
    by (e ∷ es) all = ((λ r i. upper_more a acts r.holder (all.0 r i)), by es all.1)

pub held_uppers : IsHeld HoldsUppers
held_uppers = record {
  more = λ a acts begun n its. uppers_more a acts n its;
  starts = λ acts begun inc d prepared. uppers_recovered acts inc d prepared;
  binds = λ acts begun p who x include avoid d n its. uppers_bind acts p (path_asks acts begun p who) x include avoid d n its;
  notes = λ acts begun p who x b i g n its. uppers_note acts p x b i g n its;
  confirms = λ acts begun p who grants excluded included d n its.
      uppers_confirm acts p (path_asks acts begun p who) (top_asks acts begun p who) grants excluded included d n its;
  tells = λ acts begun u e d n its. uppers_told acts u e d n its;
  hellos = λ acts begun node inc n its. uppers_hello acts node inc n its;
}

module _ (acts : List Action) (begun : AreBegun acts) (a : Action) (there : Contains acts a) (nested : a.kind ≡ kind.Nested) where
  apart : (u : Uid) → IsTopAction acts u → u ≡ act_of a → ⊥
  apart u its same = its.3 (ap (λ (z : Action). z.kind)
      (one_action acts begun its.0 a (in_from its.0 acts its.1) (in_from a acts there) (its.2 ∙ same)) ∙ nested)

  off_path : (us : List Uid) → AreUpper acts us → is_on us (act_of a) ≡ false
  off_path us all = false_from_ne_true (is_on us (act_of a)) (λ on. by us all on)
    where
      by : (vs : List Uid) → AreUpper acts vs → is_on vs (act_of a) ≡ true → ⊥
      by [] its on = cc on
      by (v ∷ vs) its on = ⊎_elim (λ here. apart v its.0 (uid_is v (act_of a) here)) (λ rest. by vs its.1 rest)
          (or_cases (uid_eq v (act_of a)) (is_on vs (act_of a)) on)

  tops_upper : (us : List Uid) → AllByRecursion (IsTopOf acts) us → AreUpper acts us
  tops_upper [] its = tt
  tops_upper (u ∷ us) its = let b = its.0 in ((b.0, b.1, b.2, b.3), tops_upper us its.1)

pub nested_nothing : NestedHaveNothing
nested_nothing acts k n t o M good uppers found live names x q a at_x there nested =
    let h = (uppers k n found).live t o live names in record {
      unconfirmed = off_path acts good.begun a there nested o.confirmed (tops_upper acts good.begun a there nested o.confirmed h.confirmed);
      rows = λ r i.
          off_path acts good.begun a there nested r.holder (all_found (λ (z : Named). HaveUpper acts z.rows) x o.objects q h.rows at_x r i);
    }
