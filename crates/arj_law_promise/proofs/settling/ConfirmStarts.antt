-- A node restarts: what holds of naming's confirmations goes on.
use Rattle.arj_law_parts.proofs.Words
use Words.{◌≡◌, ◌≤◌, ◌⊎◌, ◌∙◌, ◌+◌, ◌==◌, ℕ, Bool, true, false, cond, List, [], ◌∷◌, map, Option, Some, None, refl, sym, ap, subst, inl}
use Words.{inr, ⊎_elim, Contains, arith, AllByRecursion, or_cases, uid_is, in_from, in_to, Body, Header, ObjectState, Uid, is_on, uid_eq}
use Words.{back_lines, recovered_naming, After, Before, Disk, Do, Effect, InPart, Intent, Look, PutInc, is_prepared, tell_all, Named}
use Words.{Naming, Parts, at_uid, naming_at, naming_back, parts_in, recovered_records, restart_outs, tolds_again, Post, Seen}
use Words.ending
use Rattle.arj_law_promise.proofs.Terms
use Terms.{AreSorted, in_at, all_both, all_flat, all_map, down, Up, Walks, IsRecorded, book, is_decided, HasAcked, restart_each, some_is}
use Rattle.arj_law_promise.proofs.settling
use settling.{ConfirmCases.IsMute, Cores.IsDone, Cores.Recorded, Milds.here_is, Milds.recorded_back, Milds.the_node, Rights.its_home}
use settling.{Settled.sorted_as, Steps.Either, Steps.step_walk}
use settling.ConfirmCoords.{SaysSo, milds, none_done, quiet_so}
use settling.ConfirmKnown.{AllKnown, IsNaming, prepared_itself, sorted_names}
use settling.ConfirmSteps.{IsSound, back_all, records_stay, step_confirms}
use settling.Confirms.{AsksMarked, IsConfirming, IsNamer, IsNamesNode, fixed_late, fixed_on, late_on, none_not, with_memory}
use settling.Trails.{FitsSo, Went, mild_decides}

-- ---- a restart

-- entries and records are these, and the incarnation is no lower
abbrev HasNext : Disk → Disk → Type 0
HasNext d c = (c.names ≡ d.names) × ((d.inc ≤ c.inc) × (c.intents ≡ d.intents))

module _ (hd : Header) (k : ℕ) (d : Disk) (M : Seen) (right : IsNaming (down k d M)) (e : ℕ) where
  abbrev Start : Seen
  Start = down k d M

  here : Start.nodes k ≡ Some (the_node k d None)
  here = here_is k d None M

  abbrev U : Uid → Type 0
  U x = (i : Intent) × (at_uid x d.intents ≡ Some i)

  abbrev Says : Body → Type 0
  Says = SaysSo U M

  abbrev Sends : Post → Type 0
  Sends p = IsMute p.message

  abbrev new : Parts
  new = parts_in k (d.inc + 1) d

  -- ---- its effects

  -- the incarnation that is put is the next one
  abbrev D : Disk → Type 0
  D = HasNext d

  abbrev Fits : Effect → Type 0
  Fits = FitsSo k M Says Sends (quiet_so U M) (tt, tt) D

  looks : Fits (Do Look)
  looks c next Before = next
  looks c next After = next
  looks c next (InPart which) = next

  puts : Fits (Do (PutInc (d.inc + 1)))
  puts c next Before = next
  puts c next After = (next.0, (omega arith, next.1.1))
  puts c next (InPart which) = next

  tolds_fit : (telling : List (Uid × Intent)) → AllByRecursion Fits (tolds_again telling)
  tolds_fit [] = tt
  tolds_fit (x ∷ es) = let i = x.1 in
      all_both Fits (tell_all i.root true ((x.0, ending.Commit) ∷ []) i.nodes) (tolds_again es) (one i.nodes) (tolds_fit es)
    where
      one : (ns : List ℕ) → AllByRecursion Fits (tell_all (let i = x.1 in i.root) true ((x.0, ending.Commit) ∷ []) ns)
      one [] = tt
      one (n ∷ ns) = (((λ h a z part. cc z), ((λ a z. cc z), refl)), one ns)

  records_fit : (is : List (Uid × Intent)) → ((x : Uid) (i : Intent) → Contains is (x, i) → U x) →
      AllByRecursion Fits (recovered_records k is)
  records_fit [] each = tt
  records_fit (x ∷ is) each = (
    (each x.0 x.1 (in_to x (x ∷ is) (inl refl)), tt),
    records_fit is (λ y i there. each y i (in_to (y, i) (x ∷ is) (inr (in_from (y, i) is there)))),
  )

  back_fit : (o : Option Naming) → AllByRecursion Fits (naming_back o)
  back_fit None = tt
  back_fit (Some o) = all_flat Fits (λ (x : ℕ × Named). back_lines x.1) o.objects (λ x. all_map Fits _ x.1.rows (λ r. (tt, tt)))

  sorted : AreSorted d.intents
  sorted = let z = right.0.1.2.0.0.1 in let r : IsRecorded right.0.1.0 (the_node k d None) = z k (the_node k d None) here in
      let c = r.disk in sorted_as d.intents c.sorted

  restart_fits : AllByRecursion Fits (restart_outs hd k (d.inc + 1) d)
  restart_fits = restart_each Fits hd k (d.inc + 1) d looks puts (tt, tt) (back_fit (naming_at k (d.inc + 1) d.names))
      (records_fit d.intents (λ x i there. (i, in_at (x, i) d.intents sorted (in_from (x, i) d.intents there)))) (tolds_fit d.intents)
      (λ u. ((λ h a z part. cc z), ((λ a z. cc z), refl)))
      (λ n. ((λ h a z part. cc z), ((λ a z. cc z), refl)))

  -- ---- what holds then

  -- whom naming confirmed then has an entry prepared
  pending : (es : List (Uid × List ObjectState)) → AllByRecursion (λ (z : Uid × List ObjectState). is_prepared z.0 d.names ≡ true) es →
      (u : Uid) → is_on (map (λ (p : Uid × List ObjectState). p.0) es) u ≡ true → is_prepared u d.names ≡ true
  pending [] all u on = absurd (cc on)
  pending (z ∷ es) all u on = ⊎_elim (λ same. subst (λ x. is_prepared x d.names ≡ true) (uid_is z.0 u same) all.0)
      (λ rest. pending es all.1 u rest) (or_cases (uid_eq z.0 u) (is_on (map (λ (p : Uid × List ObjectState). p.0) es) u) on)

  module _ (Z : Seen) (w : Went k M Says Sends (Either D new) Z) where
    names_are : (let c = w.disk in c.names) ≡ d.names
    names_are = w.fits.0.0

    same : (let c = w.disk in c.intents) ≡ d.intents
    same = w.fits.0.1.1

    grows : d.inc ≤ (let c = w.disk in c.inc)
    grows = w.fits.0.1.0

    decides : (u : Uid) → is_decided (book Z.lines) u ≡ true → IsDone (down k d M) u ⊎ IsSound M Z u
    decides u on = ⊎_elim (λ old. inl (inl old))
        (λ found. inl (inr (the_node k d None, found.0, ap Start.nodes (its_home hd k d M right.0.0 e u found) ∙ here, found.1)))
        (mild_decides U M.lines w.more (milds U M w.more w.said_so) u (subst (λ ls. is_decided (book ls) u ≡ true) w.lines on))

    recorded : (u : Uid) → Recorded Z u → Recorded (down k d M) u ⊎ IsSound M Z u
    recorded u r = inl (recorded_back k d None M Says Sends (Either D new) Z w same u r)

    restarted : IsConfirming Z
    restarted = step_confirms k d None M Says Sends (Either D new) Z w right.1 (record {
      decides = decides;
      recorded = recorded;
      stays = records_stay k d None M Says Sends (Either D new) Z w same;
      clean = λ before line behind n u is says_it on. none_done U M w.more before line behind n u w.said_so is says_it;
      asks = λ p so h a is part done. so.0 h a is part;
      apart = λ other p so a is. so.1.0 a is;
      here = λ one q. node q;
    })
      where
        node : IsNamesNode (down k d M) (the_node k d None) → IsNamesNode Z (the_node k w.disk w.live)
        node q = with_memory Start Z (the_node k d None) (the_node k w.disk w.live) q grows
            (λ u on. ap (is_prepared u) (sym names_are) ∙ on) w.on back
            (λ u y. ⊎_elim (λ old. (y.0, old, y.2, y.3, y.4)) (λ now. absurd (let z = now.1 in z.1.0 y.2 y.3)) (w.back y.0 y.1)) live
          where
            back : (u : Uid) → HasAcked Z.sent u 1 → IsDone Z u → AsksMarked Z.sent u →
                HasAcked M.sent u 1 × IsDone (down k d M) u × AsksMarked M.sent u
            back = back_all k d None M Says Sends (Either D new) Z w decides recorded (λ p so h a is part done. so.0 h a is part)
                (λ p so from. inl so.1.1)

            live : (t : Parts) (n : Naming) → w.live ≡ Some t → t.naming ≡ Some n → IsNamer Z t n
            live t n up_it named = ⊎_elim (λ none. none_not (sym none ∙ up_it)) (λ its. by (some_is (sym its ∙ up_it))) w.fits.1
              where
                fresh : IsNamer Z (parts_in k (d.inc + 1) d) (recovered_naming (d.inc + 1) d.names)
                fresh = record {
                  inc = refl;
                  confirmed = λ u on. fixed_on d.inc (d.inc + 1) M.sent Z.sent (omega arith) w.on u (q.held u (pending (let p = d.names in
                      p.pend) (let h = prepared_itself d.names (sorted_names Start right.0 k (the_node k d None) here) in h.each) u on)).0;
                  acked = λ u has done asked. let b = back u has done asked in let core = right.1 in inr (late_on (d.inc + 1) M.sent Z.sent
                      w.on u (fixed_late d.inc (d.inc + 1) M.sent u (omega arith) (q.yeses u (core.said u b.2 b.1))));
                }

                its_naming : (o : Option Naming) → (x : Bool) → cond x (Some (recovered_naming (d.inc + 1) d.names)) None ≡ Some n →
                    recovered_naming (d.inc + 1) d.names ≡ n
                its_naming o true is = some_is is
                its_naming o false is = none_not is

                by : parts_in k (d.inc + 1) d ≡ t → IsNamer Z t n
                by is = subst (λ z. IsNamer Z z n) is (subst (IsNamer Z (parts_in k (d.inc + 1) d))
                    (its_naming None (k == 1) (ap (λ (z : Parts). z.naming) is ∙ named)) fresh)

  pub restart_naming : Walks AllKnown e k (restart_outs hd k (d.inc + 1) d) (Up AllKnown k (parts_in k (d.inc + 1) d)) d M →
      Walks IsNaming e k (restart_outs hd k (d.inc + 1) d) (Up IsNaming k (parts_in k (d.inc + 1) d)) d M
  restart_naming known = step_walk AllKnown IsConfirming k M Says Sends (quiet_so U M) (tt, tt) D (parts_in k (d.inc + 1) d) e
      (restart_outs hd k (d.inc + 1) d) d restart_fits (refl, (omega arith, refl)) (λ Z its w. restarted Z w) known
