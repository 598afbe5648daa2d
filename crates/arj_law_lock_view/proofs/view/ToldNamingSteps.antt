-- Whole naming goes at an end that it is told of.
use Rattle.arj_law_parts.proofs.Words
use Words.{◌≡◌, ◌≢◌, ◌⊎◌, ◌∙◌, ◌||◌, List, [], ◌∷◌, Bool, true, false, cond, refl, sym, ap, inl, inr, ⊎_elim, not, subst, list_any}
use Words.{or_parts, uid_cases, in_to, End, Path, Row, Uid, drop_rows, entry, is_on, top_of, top_path, did_nothing, end_named, Naming}
use Words.{end_locks, taken_end, told_new, drop_uid, with_uid}
use Words.list
use Words.ending
use Rattle.arj_law_lock_view.proofs.Terms
use Terms.{Act, is_top, on, stay, State, IsToldOf, Told, Owners, drop_on, on_with, with_on, each_at, Acts, IsTopped, MayGo, MayPass}
use Terms.{OnlyTold, Goes, NobodyConfirmed, OnlyNaming, SameConfirmed, SeesNamed, HasNothingAt, HaveFirsts, SeesNaming, ShowsEndAt}
use Terms.{place_of, SeesRows, View}
use Rattle.arj_law_lock_view.proofs.view
use view.{EndSteps.aborts_are_seen, EndSteps.ended_seen, FirstRows.firsts_ended, RunSteps.goes_to}
use view.NamingSteps.{naming_itself, untold_on}
use view.PassSteps.{commits_are_seen, passes_are_seen}
use Rattle.arj_law_lock_view.specs.view.Namings.{EndsAreTold, IsTelling}

-- rows of others stay
none_dropped : (u : Uid) (rows : List Row) → ((r : Row) → list.In r rows → is_on r.holder u ≡ false) → drop_rows u rows ≡ rows
none_dropped u [] none = refl
none_dropped u (r ∷ rs) none = by (is_on r.holder u) (none r (inl refl)) (none_dropped u rs (λ q i. none q (inr i)))
  where
    by : (b : Bool) → b ≡ false → drop_rows u rs ≡ rs → cond (not b) (r ∷ drop_rows u rs) (drop_rows u rs) ≡ r ∷ rs
    by true is rest = absurd (cc is)
    by false is rest = ap (λ (k : List Row). r ∷ k) rest

module _ (v : View) (owner : Owners) (u : Uid) (e : End) (n : Naming) (S : State) (telling : IsTelling v owner u e n S)
    (fresh : is_on n.told u ≡ false) (sees : SeesNaming v n S) where
  abbrev act : Acts
  act = v.family.act

  abbrev heard : Told
  heard = is_on (with_uid u n.told)

  later : IsToldOf (is_on n.told) heard u
  later = record {
    itself = with_on u u n.told (inl refl);
    before = λ w t. with_on w u n.told (inr t);
    only = λ w t. ⊎_elim (λ same. inr same) (λ old. inl old) (on_with w u n.told t);
  }

  -- a path that isn't over now wasn't over
  not_over : (us : List Uid) → list_any heard us ≡ false → list_any (is_on n.told) us ≡ false
  not_over [] none = refl
  not_over (w ∷ us) none = by (is_on n.told w) refl (not_over us (or_parts (heard w) (list_any heard us) none).1)
    where
      by : (b : Bool) → is_on n.told w ≡ b → list_any (is_on n.told) us ≡ false → (b || list_any (is_on n.told) us) ≡ false
      by true told rest = absurd (cc (sym (with_on w u n.told (inr told)) ∙ (or_parts (heard w) (list_any heard us) none).0))
      by false told rest = rest

  -- naming without what it had of the action
  ended : (f : End) (T : State) → OnlyTold act u S T → SameConfirmed S T →
      SeesNamed act v.x (record (place_of n) { told = heard }) (end_named u f sees.named) T → SeesNaming v (end_locks u f n) T
  ended f T only same s = record {
    named = end_named u f sees.named;
    there = each_at (λ y. end_named u f) v.x n.objects sees.named sees.there;
    seen = s;
    told = λ p topped off. untold p topped off (T.naming.told (act (top_of p))) refl;
    confirmed = λ w h. ⊎_elim
        (λ (there : is_on n.confirmed w ≡ true). ⊎_elim (λ (own : w ≡ u). inr (with_on w u n.told (inl own)))
        (λ (other : w ≢ u). inl (drop_on w u n.confirmed other there)) (uid_cases w u))
        (λ (old : is_on n.told w ≡ true). inr (with_on w u n.told (inr old)))
        (sees.confirmed w (sym (ap (λ (g : Act → Bool). g (act w)) same.0) ∙ h));
    firsts = subst (λ (g : Act → Bool). HaveFirsts act (drop_uid u n.confirmed) g (let o = end_named u f sees.named in o.rows)) (sym same.0)
        (firsts_ended act n.confirmed S.naming.confirmed u f sees.named sees.firsts);
  }
    where
      untold : (p : Path) → IsTopped act p → list_any heard (top_path p) ≡ false → (b : Bool) → T.naming.told (act (top_of p)) ≡ b →
          b ≡ false
      untold p topped off false is = refl
      untold p topped off true is = absurd (⊎_elim
          (λ (old : S.naming.told (act (top_of p)) ≡ true). cc (sym old ∙ sees.told p topped (not_over (top_path p) off)))
          (λ (below : on (act (top_of p)) (act u) ≡ true).
          cc (sym (with_on u u n.told (inl refl)) ∙ untold_on heard (top_path p) off u ((topped.along).alone u below)))
          (only (act (top_of p)) is))

  abbrev Takes : End → Type 0
  Takes f = Goes S (λ T. SeesNaming v (end_locks u f n) T × OnlyNaming S T × NobodyConfirmed S T)

  abort_goes : MayGo S (act u) → Takes ending.Abort
  abort_goes may = goes_to (aborts_are_seen act owner v.x (place_of n) heard sees.named u S telling.owned later may
      (telling.good sees.named sees.there) sees.seen) (λ T g. (ended ending.Abort T g.2 g.3 g.0, g.1, g.3.1))

  commit_goes : MayGo S (act u) → Takes ending.Commit
  commit_goes may = goes_to (commits_are_seen act owner v.x (place_of n) heard sees.named u S telling.one later may
      (telling.good sees.named sees.there) sees.seen) (λ T g. (ended ending.Commit T g.2 g.3 g.0, g.1, g.3.1))

  pass_goes : (s : Uid) → MayPass act u s sees.named S → Takes ending.Commit
  pass_goes s may = goes_to (passes_are_seen act owner v.x (place_of n) heard sees.named u s S telling.one later may
      (telling.good sees.named sees.there) sees.seen) (λ T g. (ended ending.Commit T g.2 g.3 g.0, g.1, g.3.1))

  -- a constituent that naming didn't confirm
  unconfirmed : (s : Uid) → MayPass act u s sees.named S → is_on n.confirmed u ≡ false → MayGo S (act u)
  unconfirmed s may none = inr (ap is_top may.below, may.committed, by (S.naming.confirmed (act u)) refl)
    where
      by : (b : Bool) → S.naming.confirmed (act u) ≡ b → b ≡ false
      by false is = refl
      by true is = absurd (⊎_elim (λ (there : is_on n.confirmed u ≡ true). cc (sym there ∙ none))
          (λ (old : is_on n.told u ≡ true). cc (sym old ∙ fresh)) (sees.confirmed u is))

  -- an action that has nothing here: the machine does nothing
  nothing_goes : HasNothingAt n sees.named u → is_top (act u) ≡ false → Takes ending.Abort
  nothing_goes none nested = record {
    state = S;
    run = stay;
    holds = (
      ended ending.Abort S (λ b h. inl h) (refl, refl) (ended_seen act owner v.x (place_of n) heard sees.named u S later
          (telling.good sees.named sees.there) sees.seen (drop_rows u (sees.named).rows) S.naming.rows S.naming.told
          (λ top. absurd (let bad : true ≡ false = sym top ∙ nested in cc bad)) (λ a off. off)
          (subst (λ (rs : List Row). SeesRows act (entry v.x) rs S.naming.rows)
          (sym (none_dropped u (sees.named).rows (λ r i. none.rows r (in_to r (sees.named).rows i)))) (sees.seen).rows)),
      naming_itself S,
      refl,
    );
  }

  pub new_goes : Takes (taken_end u e n)
  new_goes = by e (telling.shown sees.named sees.there fresh)
    where
      commit : (b : Bool) → is_on n.confirmed u ≡ b → MayGo S (act u) ⊎ (((s : Uid) × MayPass act u s sees.named S)
          ⊎ (HasNothingAt n sees.named u × (is_top (act u) ≡ false))) → Takes (cond b ending.Commit ending.Abort)
      commit true is (inl may) = commit_goes may
      commit true is (inr (inl (s, may))) = pass_goes s may
      commit true is (inr (inr none)) = absurd (let z = none.0 in let e = z.unconfirmed in cc (sym is ∙ e))
      commit false is (inl may) = abort_goes may
      commit false is (inr (inl (s, may))) = abort_goes (unconfirmed s may is)
      commit false is (inr (inr none)) = nothing_goes none.0 none.1

      by : (f : End) → ShowsEndAt v n sees.named S u f → Takes (taken_end u f n)
      by ending.Abort shown = abort_goes shown
      by ending.Commit shown = commit (is_on n.confirmed u) refl shown

pub ends_are_told : EndsAreTold
ends_are_told v owner u e d n S telling sees = by (is_on n.told u) refl
  where
    by : (b : Bool) → is_on n.told u ≡ b → Goes S (λ T. SeesNaming v (let t = cond b (did_nothing n) (told_new u (taken_end u e n) d n) in
        t.part) T × OnlyNaming S T × NobodyConfirmed S T)
    by true old = record { state = S; run = stay; holds = (sees, naming_itself S, refl) }
    by false fresh = new_goes v owner u e n S telling fresh sees
