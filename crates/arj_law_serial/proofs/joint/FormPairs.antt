-- A pair whose states are so stays so as states are put, prepared, committed and aborted.
use Rattle.arj_law_parts.proofs.Words
use Words.{◌≡◌, ◌∙◌, Bool, true, false, cond, List, [], ◌∷◌, Option, Some, None, refl, sym, ap, subst, ⊎_elim, AllByRecursion, ObjectState}
use Words.{Uid, Pair, moved_some, new_states, pair_aborted, pair_committed, pair_in_part, pair_prepared, at_uid, put_states, put_uid}
use Words.{unwrap_or}
use Rattle.arj_law_serial.proofs.Terms.{Own, all_at_uid, moved}
use Rattle.arj_law_parts.proofs.parts.Keys.{put_cases}
use Rattle.arj_law_runs.proofs.addresses.Lists.{all_put, all_without}
use Rattle.arj_law_serial.specs.joint.Forms.{PairIsSo}

module _ (P : Uid → ObjectState → Type 0) where
  abbrev pub Held : List (Uid × ObjectState) → Type 0
  Held held = (u : Uid) (st : ObjectState) → at_uid u held ≡ Some st → P u st × (st.uid ≡ u)

  pub put_so : (s : ObjectState) (held : List (Uid × ObjectState)) → Own P s → Held held → Held (put_uid s.uid s held)
  put_so s held its so u st is = ⊎_elim (λ new. (
    subst (λ w. P w st) (sym new.0) (subst (λ (z : ObjectState). P s.uid z) new.1 its),
    ap (λ (z : ObjectState). z.uid) (sym new.1) ∙ sym new.0,
  )) (λ old. so u st old.1) (put_cases u s.uid s st held is)

  pub puts_so : (ss : List ObjectState) (held : List (Uid × ObjectState)) → AllByRecursion (Own P) ss → Held held →
      Held (put_states ss held)
  puts_so [] held its so = so
  puts_so (s ∷ ss) held its so = puts_so ss (put_uid s.uid s held) its.1 (put_so s held its.0 so)

  pub none_so : Held []
  none_so u st is = let no_way : ◌≡◌ {A = Option ObjectState} None (Some st) = is in cc

  moved_so : (ss : List ObjectState) (held : List (Uid × ObjectState)) → AllByRecursion (Own P) ss → Held held → Held (moved ss held)
  moved_so [] held its so = so
  moved_so (s ∷ ss) held its so = moved_so ss (put_uid s.uid s held) its.1 (put_so s held its.0 so)

  moved_some_so : (which : Uid → Bool) (ss : List ObjectState) (held : List (Uid × ObjectState)) → AllByRecursion (Own P) ss → Held held →
      Held (moved_some which ss held)
  moved_some_so which [] held its so = so
  moved_some_so which (s ∷ ss) held its so =
      moved_some_so which ss (cond (which s.uid) (put_uid s.uid s held) held) its.1 (by (which s.uid))
    where
      by : (b : Bool) → Held (cond b (put_uid s.uid s held) held)
      by true = put_so s held its.0 so
      by false = so

  new_so_far : (a : Uid) (d : Pair) → PairIsSo P d → AllByRecursion (Own P) (new_states a d)
  new_so_far a d so = by (at_uid a d.pend) refl
    where
      by : (o : Option (List ObjectState)) → at_uid a d.pend ≡ o → AllByRecursion (Own P) (unwrap_or o [])
      by None is = tt
      by (Some ss) is = all_at_uid (AllByRecursion (Own P)) a ss d.pend so.pend is

  pub prepared_so : (a : Uid) (states : List ObjectState) (d : Pair) → AllByRecursion (Own P) states → PairIsSo P d →
      PairIsSo P (pair_prepared a states d)
  prepared_so a states d its so = record {
    held = so.held;
    pend = all_put (λ (e : Uid × List ObjectState). AllByRecursion (Own P) e.1) a states d.pend (λ w. its) so.pend;
  }

  pub committed_so : (a : Uid) (d : Pair) → PairIsSo P d → PairIsSo P (pair_committed a d)
  committed_so a d so = record {
    held = moved_so (new_states a d) d.held (new_so_far a d so) so.held;
    pend = all_without (λ (e : Uid × List ObjectState). AllByRecursion (Own P) e.1) a d.pend so.pend;
  }

  pub aborted_so : (a : Uid) (d : Pair) → PairIsSo P d → PairIsSo P (pair_aborted a d)
  aborted_so a d so =
      record { held = so.held; pend = all_without (λ (e : Uid × List ObjectState). AllByRecursion (Own P) e.1) a d.pend so.pend }

  pub in_part_so : (which : Uid → Bool) (a : Uid) (d : Pair) → PairIsSo P d → PairIsSo P (pair_in_part which a d)
  in_part_so which a d so = record { held = moved_some_so which (new_states a d) d.held (new_so_far a d so) so.held; pend = so.pend }
