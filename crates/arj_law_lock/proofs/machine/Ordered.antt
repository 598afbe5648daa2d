-- The laws of order, nesting and one node, from the invariant.
use Rattle.arj_law_lock.proofs.Terms
use Terms.{◌≡◌, ◌≢◌, ◌≤◌, ◌<◌, ◌⊎◌, ℕ, true, false, inl, inr, refl, sym, ◌∙◌, ap, subst, arith, Act, Root, same, on, root, top, is_top}
use Terms.{is_action, In, mode, Call, Include, State, Alive, Covered, Survives, Run, stay, step, next}
use Rattle.arj_law_lock.proofs.machine
use machine.{CallSteps.top_acts, Core.open_good, Core.up_not_past, Lasts.kept_holds, Lasts.good_on, Lasts.member_back, Order.step_keeps}
use machine.{Order.run_keeps, Roots.RootsLow, Roots.roots_low}
use machine.Claims.{IsUp, GoesOn, Covers, gone, over, dropped, stands, Anchor, own, unit, sibling, Good, Done, Before, Member, Follows}
use machine.Claims.{Counts, Holds}
use machine.Later.{Later, alive_back, goes_back, first_rises}
use machine.Paths.{by_cases, differ, same_is, same_self, on_top, top_is, top_root, top_of}
use Rattle.arj_law_lock.specs.machine.Laws.{IsCommitted, Conflicting, IsInOrder, IsNested, IsAtOneNode, IsHeld, IsEntryWritten, CountsFor}
use Rattle.arj_law_lock.specs.machine.Laws.{Closes, OfUnit}

-- a surviving action is alive
pub lives : (s : State) → RootsLow s → (a : Act) → Survives s a → Alive s a
lives s low a survives u o = elim (by_cases (is_action u)) [ inl t ↦ (let e = survives u o t in omega (arith, e)) | inr f ↦ low u f ]

module _ {s : State} (h : Holds s) (low : RootsLow s) where
  committed_top : (c : Call) → In c s.calls → Survives s c.act → (s.action (top c.act)).stage ≡ 3
  committed_top c i survives = survives (top c.act) (on_top c.act) (top_acts c.act (h.calls c i).acts)

  -- a committed top that covers a surviving call of its unit counts
  pub good_top : (c : Call) (m : Act) → In c s.calls → Survives s c.act → is_top m ≡ true → (s.action m).stage ≡ 3 → Covered s m c.act →
      Good s m
  good_top c m i survives is three covers =
      let p = (h.tops m is).called (omega (arith, three)) (omega (arith, three)) c i (lives s low c.act survives) covers in
      record { alive = omega (arith, three); going = inr (omega (arith, three)); up = inr p.0; present = inr p.1 }

  own_covered : (a : Act) → Covered s (top a) a
  own_covered a = (sym (top_root a), inl refl)

  pub counts_top : (c : Call) (m : Act) → In c s.calls → Survives s c.act → is_top m ≡ true → (s.action m).stage ≡ 3 → root m ≡ root c.act →
      Covered s m c.act → Counts s c m
  counts_top c m i survives is three r covers = record {
    alive = lives s low c.act survives;
    good = good_top c (top c.act) i survives (top_is c.act (h.calls c i).acts) (committed_top c i survives) (own_covered c.act);
    top = is;
    unit = r;
    member = inr covers;
    counts = good_top c m i survives is three covers;
  }

  -- a committed top of the call's unit covers it, or had its turn before
  turn : (a m : Act) → is_action a ≡ true → Survives s a → is_top m ≡ true → (s.action m).stage ≡ 3 → root m ≡ root a →
      Covered s m a ⊎ ((s.action m).place < (s.action (top a)).place)
  turn a m act survives is three r = by (by_cases (same m (top a)))
    where
      three' : (s.action (top a)).stage ≡ 3
      three' = survives (top a) (on_top a) (top_acts a act)

      by : (same m (top a) ≡ true) ⊎ (same m (top a) ≡ false) → Covered s m a ⊎ ((s.action m).place < (s.action (top a)).place)
      by (inl e) = inl (sym r, inl (sym (same_is m (top a) e)))
      by (inr f) = elim (h.turns m (top a) is (top_is a act) (r ∙ sym (top_root a))
          (λ e. differ (subst (λ (x : Act). same m x ≡ true) e (same_self m)) f) (let e = three in
          (omega (arith, e), omega (arith, e))) (let e = three' in (omega (arith, e), omega (arith, e)))) [
            | inl d ↦ inr (let l = d.1 in let o = (h.tops m is).ordered three in omega (arith, l, o))
            | inr d ↦ inl (sym r, inr (d.0, d.1))
          ]

  -- the last top of a unit counts for each surviving action of it
  pub closes_counts : (a m : Act) → is_action a ≡ true → Survives s a → Closes s m a → CountsFor s m a
  closes_counts a m act survives k =
      elim (turn a m act survives k.0.0 k.0.1 k.1) [ inl covers ↦ (k.0, covers) | inr l ↦ absurd (let q = k.2 in omega (arith, l, q)) ]

  pub good_last : (d : Call) → In d s.calls → Survives s d.act → Good s (top d.act)
  good_last d i survives =
      good_top d (top d.act) i survives (top_is d.act (h.calls d i).acts) (committed_top d i survives) (own_covered d.act)

  pub is_nested : IsNested s
  is_nested c d k r = h.nested c d k.first k.second k.line r k.write (lives s low c.act k.first_survives)
      (lives s low d.act k.second_survives) (good_last d k.second k.second_survives)

  follows_top : (c d : Call) → In c s.calls → In d s.calls → c.line < d.line → Survives s c.act → Survives s d.act → root c.act ≢ root d.act
      → (m : Act) → is_top m ≡ true → (s.action m).stage ≡ 3 → root m ≡ root c.act → Covered s m c.act → Follows s c d.act d.write d.line m
  follows_top c d i j line sc sd apart m is three r covers =
      h.pairs c d m i j line apart (counts_top c m i sc is three r covers) (lives s low d.act sd) (good_last d j sd)

  pub is_in_order : IsInOrder s
  is_in_order = record { units = units; tops = tops; writes = writes }
    where
      own_follows : (c d : Call) → Conflicting s c d → root c.act ≢ root d.act →
          Before s (top c.act) d.line × (c.write ≡ true → Done s (top c.act) d.line)
      own_follows c d k apart = (follows_top c d k.first k.second k.line k.first_survives k.second_survives apart (top c.act) (top_is c.act
          (h.calls c k.first).acts) (committed_top c k.first k.first_survives) (top_root c.act) (own_covered c.act)).order k.write

      units : (c d : Call) (m : Act) → Conflicting s c d → root c.act ≢ root d.act → IsCommitted s m → root m ≡ root c.act →
          (s.action m).place < d.line
      units c d m k apart done r = elim (turn c.act m (h.calls c k.first).acts k.first_survives done.0 done.1 r) [
        | inl covers ↦
            ((follows_top c d k.first k.second k.line k.first_survives k.second_survives apart m done.0 done.1 r covers).order k.write).0.1
        | inr l ↦ (let b = (own_follows c d k apart).0.1 in omega (arith, l, b))
      ]

      passed_top : (c d : Call) → Conflicting s c d → root c.act ≡ root d.act → top c.act ≢ top d.act →
          ((s.action (top c.act)).stage ≡ 3) × ((s.action (top c.act)).done < d.line)
      passed_top c d k r apart = is_nested c d k r (top c.act) (on_top c.act) (elim (by_cases (on d.act (top c.act)))
          [ inl o ↦ absurd (apart (sym (top_of d.act (top c.act) (top_is c.act (h.calls c k.first).acts) o))) | inr f ↦ f ])

      tops : (c d : Call) → Conflicting s c d → root c.act ≡ root d.act → top c.act ≢ top d.act → (s.action (top c.act)).place < d.line
      tops c d k r apart = let p = passed_top c d k r apart in let l = p.1 in
          let o = (h.tops (top c.act) (top_is c.act (h.calls c k.first).acts)).ordered p.0 in omega (arith, l, o)

      number_cases : (x y : ℕ) → (x ≡ y) ⊎ (x ≢ y)
      number_cases x y = grind arith

      writes : (c d : Call) → Conflicting s c d → c.write ≡ true → top c.act ≢ top d.act → (s.action (top c.act)).done < d.line
      writes c d k write apart =
          elim (number_cases (root c.act) (root d.act)) [ inl e ↦ (passed_top c d k e apart).1 | inr f ↦ ((own_follows c d k f).1 write).1 ]

  pub is_at_one_node : IsAtOneNode s
  is_at_one_node c d m i j line sc sd apart done r late = elim (turn c.act m (h.calls c i).acts sc done.0 done.1 r) [
    | inl covers ↦ elim (follows_top c d i j line sc sd apart m done.0 done.1 r covers).node
        [ inl b ↦ absurd (let l = b.1 in omega (arith, l, late)) | inr e ↦ e ]
    | inr l ↦ elim (follows_top c d i j line sc sd apart (top c.act) (top_is c.act (h.calls c i).acts) (committed_top c i sc)
        (top_root c.act) (own_covered c.act)).node [ inl b ↦ absurd (let q = b.1 in omega (arith, q, l, late)) | inr e ↦ e ]
  ]

-- What counts at the end of a run counted in each state before.
record Back (s t : State) (c : Call) (m : Act) : Type 0 where
  alive : Alive s c.act
  good : Good s m
  member : Member s m c.act
  kept : t.kept (root c.act) ≡ s.kept (root c.act)
  server : (t.binding (t.kept (root c.act))).server ≡ (s.binding (s.kept (root c.act))).server

back : {s t : State} → Run s t → Holds s → (c : Call) → In c s.calls → (m : Act) → is_top m ≡ true → root m ≡ root c.act → Alive t c.act →
    Good t m → Member t m c.act → Back s t c m
back stay h c i m is r alive good member = record { alive = alive; good = good; member = member; kept = refl; server = refl }
back {s} {t} (step e guard rest) h c i m is r alive good member = by (back rest k.1 c (k.0.calls c i) m is r alive good member)
  where
    u : State
    u = next e s

    k : Later s u × Holds u
    k = step_keeps e s guard h

    by : Back u t c m → Back s t c m
    by b = record {
      alive = before;
      good = good_on h k.0 c i b.alive m is r member' b.good;
      member = member';
      kept = b.kept ∙ k.0.keeps c i b.alive;
      server = b.server ∙ ap (λ j. (u.binding j).server) (k.0.keeps c i b.alive)
          ∙ (k.0.made (s.kept (root c.act)) (kept_holds h c i before).below).0;
    }
      where
        before : Alive s c.act
        before = alive_back k.0 c.act b.alive

        member' : Member s m c.act
        member' = member_back h k.0 m c.act is (h.calls c i).acts b.member

pub is_held : {s t : State} → Run s t → Holds s → RootsLow s → (c : Call) (m : Act) → In c s.calls → Survives t c.act → Closes t m c.act →
    (s.action m).stage ≡ 0 → IsHeld s t c
is_held {s} {t} run h low c m i survives closes zero = record { server = server; entry = entry }
  where
    ht : Holds t
    ht = run_keeps run h

    it : {s t : State} → Run s t → Holds s → In c s.calls → In c t.calls
    it stay g j = j
    it (step e guard rest) g j = let k = step_keeps e _ guard g in it rest k.1 (k.0.calls c j)

    counts : CountsFor t m c.act
    counts = closes_counts ht (roots_low run low) c.act m (h.calls c i).acts survives closes

    r : root m ≡ root c.act
    r = sym counts.1.0

    b : Back s t c m
    b = back run h c i m counts.0.0 r (lives t (roots_low run low) c.act survives)
        (good_top ht (roots_low run low) c m (it run h i) survives counts.0.0 counts.0.1 counts.1) (inr counts.1)

    opened : GoesOn s (root m) × IsUp s (s.kept (root m)) × (s.naming.first ≤ s.kept (root m))
    opened = open_good h m counts.0.0 zero (let p = (kept_holds h c i b.alive).positive in
        let e : s.kept (root m) ≡ s.kept (root c.act) = ap s.kept r in omega (arith, p, e)) b.good

    goes : GoesOn s (root c.act)
    goes = subst (λ (u : ℕ). GoesOn s u) r opened.0

    server : (x : Act) × (on c.act x ≡ true) × (mode c.write ≤ (s.server (t.binding (t.kept (root c.act))).server).rows x)
    server = by ((h.calls c i).covers b.alive)
      where
        by : Covers s c.act (s.kept (root c.act)) (mode c.write) →
            (x : Act) × (on c.act x ≡ true) × (mode c.write ≤ (s.server (t.binding (t.kept (root c.act))).server).rows x)
        by (gone p) = absurd (up_not_past s (s.kept (root c.act)) (subst (λ (u : ℕ). IsUp s (s.kept u)) r opened.1) p)
        by (over l) = absurd (let g = goes in omega (arith, g, l))
        by (dropped u o l) = absurd (let g = b.alive u o in omega (arith, g, l))
        by (stands x u o row merged) = (x, o, subst (λ (n : ℕ). mode c.write ≤ (s.server n).rows x) (sym b.server) row)

    entry : (x : Act) × OfUnit c.act x × (1 ≤ s.naming.rows x)
    entry = by (((h.calls c i).sure b.alive).here (subst (λ (u : ℕ). s.naming.first ≤ s.kept u) (r ∙ sym (top_root c.act)) opened.2)
        (subst (λ (u : ℕ). GoesOn s u) (sym (top_root c.act)) goes)).1
      where
        by : Anchor s 1 (top c.act) → (x : Act) × OfUnit c.act x × (1 ≤ s.naming.rows x)
        by (own p) = (top c.act, inr (top_is c.act (h.calls c i).acts, top_root c.act), p.0)
        by (unit l) = (Root (root (top c.act)), inl (ap Root (top_root c.act)), l)
        by (sibling z it rz three conf p) = (z, inr (it, rz ∙ top_root c.act), p.0)

-- Includes: the write row on the entry.

record Entries (s : State) (c : Include) (m : Act) : Type 0 where
  alive : Alive s c.act
  stage : (s.action m).stage ≤ 3
  going : GoesOn s (root m) ⊎ (1 ≤ (s.action m).stage)
  member : Member s m c.act
  present : (c.grant ≡ s.naming.first) ⊎ (s.confirmed m ≡ true)

back_include : {s t : State} → Run s t → Holds s → (c : Include) → In c s.includes → (m : Act) → is_top m ≡ true → Entries t c m →
    Entries s c m
back_include stay h c i m is e = e
back_include {s} {t} (step ev guard rest) h c i m is e = by (back_include rest k.1 c (k.0.includes c i) m is e)
  where
    u : State
    u = next ev s

    k : Later s u × Holds u
    k = step_keeps ev s guard h

    by : Entries u c m → Entries s c m
    by b = record {
      alive = alive_back k.0 c.act b.alive;
      stage = (let l = k.0.stage m in let q = b.stage in omega (arith, l, q));
      going = going b.going;
      member = member;
      present = present b.present;
    }
      where
        member : Member s m c.act
        member = member_back h k.0 m c.act is (h.includes c i).acts b.member

        going : GoesOn u (root m) ⊎ (1 ≤ (u.action m).stage) → GoesOn s (root m) ⊎ (1 ≤ (s.action m).stage)
        going (inl g) = inl (goes_back k.0 (root m) g)
        going (inr one) = elim (k.0.going m is one b.stage) [ inl l ↦ inr l | inr g ↦ inl g ]

        present : (c.grant ≡ u.naming.first) ⊎ (u.confirmed m ≡ true) → (c.grant ≡ s.naming.first) ⊎ (s.confirmed m ≡ true)
        present (inl e') = inl (let l = first_rises k.0 in let q = (h.includes c i).granted in omega (arith, e', l, q))
        present (inr conf) = elim (k.0.confirms_include c i b.alive m is member conf)
            [ inl f ↦ inr f | inr l ↦ inl (let q = (h.includes c i).granted in omega (arith, l, q)) ]

pub is_entry_written : {s t : State} → Run s t → Holds s → RootsLow s → (c : Include) (m : Act) → In c s.includes → Survives t c.act →
    Closes t m c.act → (s.action m).stage ≡ 0 → IsEntryWritten s c
is_entry_written {s} {t} run h low c m i survives closes zero = by (((h.includes c i).entered b.alive) (present b.present) goes)
  where
    ht : Holds t
    ht = run_keeps run h

    it : {s t : State} → Run s t → Holds s → In c s.includes → In c t.includes
    it stay g j = j
    it (step e guard rest) g j = let k = step_keeps e _ guard g in it rest k.1 (k.0.includes c j)

    counts : CountsFor t m c.act
    counts = closes_counts ht (roots_low run low) c.act m (h.includes c i).acts survives closes

    alive : Alive t c.act
    alive = lives t (roots_low run low) c.act survives

    three : (t.action m).stage ≡ 3
    three = counts.0.1

    b : Entries s c m
    b = back_include run h c i m counts.0.0 (record {
      alive = alive;
      stage = (let e = three in omega (arith, e));
      going = inr (let e = three in omega (arith, e));
      member = inr counts.1;
      present = inr ((ht.tops m counts.0.0).included (let e = three in omega (arith, e)) (let e = three in
          omega (arith, e)) c (it run h i) alive counts.1);
    })

    goes : GoesOn s (root (top c.act))
    goes = subst (λ (u : ℕ). GoesOn s u) (sym counts.1.0 ∙ sym (top_root c.act))
        (elim b.going [ inl g ↦ g | inr one ↦ absurd (let z = zero in omega (arith, one, z)) ])

    present : (c.grant ≡ s.naming.first) ⊎ (s.confirmed m ≡ true) → c.grant ≡ s.naming.first
    present (inl e) = e
    present (inr conf) = absurd (let l = (h.tops m counts.0.0).asked conf in let z = zero in omega (arith, l, z))

    by : Anchor s 2 (top c.act) → IsEntryWritten s c
    by (own p) = (top c.act, inr (top_is c.act (h.includes c i).acts, top_root c.act), p.0)
    by (unit l) = (Root (root (top c.act)), inl (ap Root (top_root c.act)), l)
    by (sibling z it' rz tz conf p) = (z, inr (it', rz ∙ top_root c.act), p.0)
