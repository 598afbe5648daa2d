-- An acknowledgement: where all have acknowledged, the record goes, and its commit was told to be acknowledged.
use Rattle.arj_law_parts.proofs.Words
use Words.{◌≡◌, ◌⊎◌, ◌≤◌, ◌∙◌, ◌&&◌, ℕ, Bool, true, false, cond, List, [], ◌∷◌, not, Option, Some, None, refl, sym, ap, subst, inl, inr}
use Words.{⊎_elim, arith, AllByRecursion, uid_cases, Uid, uid_eq, Coord, After, Before, Disk, Do, Effect, InPart, Intent, RemoveIntent}
use Words.{Served, Stop, is_prepared, stopped, worked, acked, acked_by, acked_left, let_go, tell_all, tolds_let_go, Parts, at_uid, has}
use Words.{without_number, without_uid, branch_of, Post, Seen}
use Words.ending
use Rattle.arj_law_promise.proofs.Terms
use Terms.{is_over, AreSorted, without_cases, without_other, up, Up, Walks, halted, IsRecorded, HasAcked, IsDemanded}
use Rattle.arj_law_promise.proofs.settling
use settling.{ConfirmCases.IsCalmBut, ConfirmCases.IsMute, ConfirmCoords.memory_on, Confirms.IsConfirming, Milds.here_is, Milds.the_node}
use settling.{Settled.sorted_as, Steps.Either, Steps.step_halt, Steps.step_walk, Trails.FitsSo, Trails.Went}
use settling.ConfirmKnown.{AllKnown, IsNaming, acks}
use settling.ConfirmParts.{mute_confirms, quiet_calm, stop_confirms}

module _ (k : ℕ) (d : Disk) (t : Parts) (M : Seen) (right : IsNaming (up k d t M)) (e : ℕ) (from : ℕ) (u : Uid)
    (has_it : HasAcked M.sent u from) where
  abbrev Start : Seen
  Start = up k d t M

  here : Start.nodes k ≡ Some (the_node k d (Some t))
  here = here_is k d (Some t) M

  recorded : IsRecorded right.0.1.0 (the_node k d (Some t))
  recorded = let z = right.0.1.2.0.0.1 in z k (the_node k d (Some t)) here

  sorted : AreSorted d.intents
  sorted = let r = recorded in let c = r.disk in sorted_as d.intents c.sorted

  its_demand : IsDemanded M.sent u
  its_demand = let z = acks Start right.0 in let l = z.world in l.asked u from has_it

  abbrev Sends : Post → Type 0
  Sends z = IsMute z.message

  module _ (c : Disk) (v : Parts) (same : v.naming ≡ t.naming) (inc : (let x = v.coord in let z = x.tree in z.inc)
      ≡ (let x = t.coord in let z = x.tree in z.inc)) (names : c.names ≡ d.names) (disk_inc : c.inc ≡ d.inc)
      (recs : (x : Uid) (j : Intent) → at_uid x c.intents ≡ Some j → at_uid x d.intents ≡ Some j)
      (stays : (x : Uid) (j : Intent) → at_uid x d.intents ≡ Some j → (at_uid x c.intents ≡ Some j) ⊎ IsDemanded M.sent x) where
    abbrev Is : Disk → Type 0
    Is b = b ≡ c

    after : (Z : Seen) → Went k M (IsCalmBut (λ x. ⊥)) Sends (Either Is v) Z → IsConfirming Z
    after Z w =
        let disk_is : w.disk ≡ c = w.fits.0 in
        mute_confirms k d (Some t) M Sends (Either Is v) Z w (λ z so. so)
        (λ x j is. recs x j (ap (λ (b : Disk). at_uid x b.intents) (sym disk_is) ∙ is))
        (λ x j is. ⊎_elim (λ old. inl (ap (λ (b : Disk). at_uid x b.intents) disk_is ∙ old)) (λ gone. inr gone) (stays x j is))
        (low d.inc (let z = w.disk in z.inc) (ap (λ (b : Disk). b.inc) disk_is ∙ disk_inc))
        (λ x on. ap (is_prepared x) (sym (ap (λ (b : Disk). b.names) disk_is ∙ names)) ∙ on)
        (memory_on k d t M right e v same inc w.live w.fits.1) right.1
      where
        low : (a b : ℕ) → b ≡ a → a ≤ b
        low a b is = omega (arith, is)

    acked_rest : (outs : List Effect) → AllByRecursion (FitsSo k M (IsCalmBut (λ x. ⊥)) Sends (quiet_calm (λ x. ⊥)) tt Is) outs →
        Walks AllKnown e k outs (Up AllKnown k v) c M → Walks IsNaming e k outs (Up IsNaming k v) c M
    acked_rest outs fits known = step_walk AllKnown IsConfirming k M (IsCalmBut (λ x. ⊥)) Sends (quiet_calm (λ x. ⊥)) tt Is v e outs c fits
        refl (λ Z its w. after Z w) known

    acked_halt : AllKnown (halted e k c M) → IsNaming (halted e k c M)
    acked_halt known =
        step_halt AllKnown IsConfirming k M (IsCalmBut (λ x. ⊥)) Sends (quiet_calm (λ x. ⊥)) tt Is v e c refl (λ Z its w. after Z w) known

  -- ---- the cases

  module _ (v : Parts) (same : v.naming ≡ t.naming)
      (inc : (let x = v.coord in let z = x.tree in z.inc) ≡ (let x = t.coord in let z = x.tree in z.inc)) where
    -- nothing is done
    nothing : Walks AllKnown e k [] (Up AllKnown k v) d M → Walks IsNaming e k [] (Up IsNaming k v) d M
    nothing known = acked_rest d v same inc refl refl (λ x j z. z) (λ x j z. inl z) [] tt known

    abbrev gone : Disk
    gone = worked (RemoveIntent u) d

    recs : (x : Uid) (j : Intent) → at_uid x (without_uid u d.intents) ≡ Some j → at_uid x d.intents ≡ Some j
    recs x j z = (without_cases x u j d.intents sorted z).1

    stays : (x : Uid) (j : Intent) → at_uid x d.intents ≡ Some j → (at_uid x (without_uid u d.intents) ≡ Some j) ⊎ IsDemanded M.sent x
    stays x j z = ⊎_elim (λ one. inr (subst (IsDemanded M.sent) (sym one) its_demand))
        (λ other. inl (without_other x u d.intents other ∙ z)) (uid_cases x u)

    stops : (how : Stop) → AllKnown (halted e k (stopped how (RemoveIntent u) d) M) →
        IsNaming (halted e k (stopped how (RemoveIntent u) d) M)
    stops Before z = (z, stop_confirms k d (Some t) M right.1 e)
    stops After z = acked_halt gone v same inc refl refl recs stays z
    stops (InPart which) z = (z, stop_confirms k d (Some t) M right.1 e)

    tolds : (c : Coord) (o : Option Intent) → AllByRecursion (FitsSo k M (IsCalmBut (λ x. ⊥)) Sends (quiet_calm (λ x. ⊥)) tt
        (λ b. b ≡ worked (RemoveIntent u) d)) (tolds_let_go u (without_uid u d.intents) c o)
    tolds c None = tt
    tolds c (Some j) = by (uid_eq j.root u) (is_over (branch_of j.root c.tree))
      where
        each : (ns : List ℕ) → AllByRecursion (FitsSo k M (IsCalmBut (λ x. ⊥)) Sends (quiet_calm (λ x. ⊥)) tt
            (λ b. b ≡ worked (RemoveIntent u) d)) (tell_all j.root false ((j.root, ending.Abort) ∷ []) ns)
        each [] = tt
        each (n ∷ ns) = (((λ h a z part. cc z), ((λ a z. cc z), refl)), each ns)

        by : (b y : Bool) →
            AllByRecursion (FitsSo k M (IsCalmBut (λ x. ⊥)) Sends (quiet_calm (λ x. ⊥)) tt (λ b2. b2 ≡ worked (RemoveIntent u) d))
            (cond (not b && y) (tell_all j.root false ((j.root, ending.Abort) ∷ []) (let_go j.root (without_uid u d.intents) c j.nodes)) [])
        by true y = tt
        by false true = each (let_go j.root (without_uid u d.intents) c j.nodes)
        by false false = tt

    -- the record goes
    all_left : Walks AllKnown e k (Do (RemoveIntent u) ∷ tolds_let_go u (without_uid u d.intents) t.coord (at_uid u d.intents))
        (Up AllKnown k v) d M → Walks IsNaming e k
        (Do (RemoveIntent u) ∷ tolds_let_go u (without_uid u d.intents) t.coord (at_uid u d.intents)) (Up IsNaming k v) d M
    all_left z = (
      (λ how. stops how (z.0 how)),
      acked_rest gone v same inc refl refl recs stays (tolds_let_go u (without_uid u d.intents) t.coord (at_uid u d.intents))
          (tolds t.coord (at_uid u d.intents)) z.1,
    )

  pub acked_naming : (v : Parts) (outs : List Effect) → v.naming ≡ t.naming → v.coord ≡ (acked from u d.intents t.coord).part → outs ≡
      (acked from u d.intents t.coord).outs → Walks AllKnown e k outs (Up AllKnown k v) d M → Walks IsNaming e k outs (Up IsNaming k v) d M
  acked_naming v outs same part are known = subst (λ es. Walks IsNaming e k es (Up IsNaming k v) d M) (sym are)
      (by (at_uid u t.coord.telling) part (subst (λ es. Walks AllKnown e k es (Up AllKnown k v) d M) are known))
    where
      inc_of : (c : Coord) → v.coord ≡ c → (let z = c.tree in z.inc) ≡ (let x = t.coord in let z = x.tree in z.inc) →
          (let x = v.coord in let z = x.tree in z.inc) ≡ (let x = t.coord in let z = x.tree in z.inc)
      inc_of c is its = ap (λ (x : Coord). let z = x.tree in z.inc) is ∙ its

      by : (o : Option Intent) → v.coord ≡ (acked_by from u d.intents t.coord o).part → Walks AllKnown e k (acked_by from u d.intents
          t.coord o).outs (Up AllKnown k v) d M → Walks IsNaming e k (acked_by from u d.intents t.coord o).outs (Up IsNaming k v) d M
      by None is z = nothing v same (inc_of t.coord is refl) z
      by (Some i) is z = one (has i.nodes from) is z
        where
          left : (ns : List ℕ) → v.coord ≡ (acked_left u i d.intents t.coord ns).part → Walks AllKnown e k (acked_left u i d.intents t.coord
              ns).outs (Up AllKnown k v) d M → Walks IsNaming e k (acked_left u i d.intents t.coord ns).outs (Up IsNaming k v) d M
          left [] its y = all_left v same (inc_of (acked_left u i d.intents t.coord []).part its refl) y
          left (n ∷ ns) its y = nothing v same (inc_of (acked_left u i d.intents t.coord (n ∷ ns)).part its refl) y

          one : (b : Bool) → v.coord ≡ (cond {A = Served Coord (Unit {0})} b
              (acked_left u i d.intents t.coord (without_number from i.nodes)) (record { part = t.coord; outs = []; reply = None })).part →
              Walks AllKnown e k (cond {A = Served Coord (Unit {0})} b (acked_left u i d.intents t.coord (without_number from i.nodes))
              (record { part = t.coord; outs = []; reply = None })).outs (Up AllKnown k v) d M
              → Walks IsNaming e k (cond {A = Served Coord (Unit {0})} b (acked_left u i d.intents t.coord (without_number from i.nodes))
              (record { part = t.coord; outs = []; reply = None })).outs (Up IsNaming k v) d M
          one true its y = left (without_number from i.nodes) its y
          one false its y = nothing v same (inc_of t.coord its refl) y
