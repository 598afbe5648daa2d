-- Claims on values last where a step leaves logs alone.
use Rattle.arj_law_lock.proofs.Terms
use Terms.{◌≡◌, ◌≢◌, ◌≤◌, ◌<◌, ◌⊎◌, ℕ, List, [], ◌∷◌, true, false, inl, inr, refl, sym, ◌∙◌, ap, subst, arith, Act, on, root, top, is_top}
use Terms.{is_action, In, Entry, Call, Answer, Invoked, State, Alive, Newest, none, newest, older, IsLast, Survives}
use Rattle.arj_law_lock.proofs.machine
use machine.{CallSteps.top_acts, Core.follows, Core.passes, Lasts.own_good}
use machine.Claims.{IsUp, GoesOn, Good, Pending, Mean, NamedHolds, Holds}
use machine.Later.{Later, alive_back, goes_back, first_rises, up_back}
use machine.Paths.{by_cases, differ, on_top, top_is, top_root, top_of}
use machine.ValueClaims.{Clean, Fine, Ok, Mine, IsWaiting, Matches, rest, both, more, less, NoneWaits, Logged, calm, bad, waiting, Seen}
use machine.ValueClaims.{SeesNow, Values}

pub record ValueLater (s t : State) : Type 0 where
  pub initial : t.initial ≡ s.initial
  pub request : (n : ℕ) → (s.server n).incarnation ≡ (t.server n).incarnation → (a : Act) → (s.server n).request a ≤ (t.server n).request a
  pub clean : (a : Act) → Clean t a → Clean s a
  pub doomed : (a : Act) → (s.action a).doomed ≡ true → (t.action a).doomed ≡ true
  pub spoils : (a : Act) → Clean s a →
      Clean t a ⊎ ((u : Act) × (on a u ≡ true) × ((s.action u).stage ≢ 3) × ((b : Act) → on b u ≡ true → Clean t b → ⊥))
  pub news : (a : Act) → is_action a ≡ true → Survives t a → Survives s a ⊎ ((s.action (top a)).stage ≡ 2)
  pub tops : (m : Act) → is_top m ≡ true → (t.action m).stage ≡ 3 → ((s.action m).stage ≡ 3) ⊎ ((s.action m).stage ≡ 2)
  pub wait_back : (a : Act) (k : ℕ) → k ≤ (s.action a).request → k ≡ (t.action a).request → (t.action a).waits ≡ true →
      (k ≡ (s.action a).request) × ((s.action a).waits ≡ true)

-- Facts of one state.

pub clean_alive : (s : State) (a : Act) → Clean s a → Alive s a
clean_alive s a c u o = (c u o).0

-- a surviving action is clean
pub survives_clean : (s : State) → ((a : Act) → (s.action a).doomed ≡ true → (is_action a ≡ true) × (((s.action a).stage ≡ 0)
    ⊎ ((s.action a).stage ≡ 4))) → ((a : Act) → is_action a ≡ false → (s.action a).stage ≤ 3) → (a : Act) → Survives s a → Clean s a
survives_clean s doomed roots a survives u o = by (by_cases (is_action u)) (by_cases (s.action u).doomed)
  where
    by : (is_action u ≡ true) ⊎ (is_action u ≡ false) → ((s.action u).doomed ≡ true) ⊎ ((s.action u).doomed ≡ false) →
        ((s.action u).stage ≤ 3) × ((s.action u).doomed ≡ false)
    by (inl act) (inl d) =
        absurd (let e = survives u o act in elim (doomed u d).1 [ inl z ↦ omega (arith, e, z) | inr z ↦ omega (arith, e, z) ])
    by (inl act) (inr f) = ((let e = survives u o act in omega (arith, e)), f)
    by (inr root') (inl d) = differ (doomed u d).0 root'
    by (inr root') (inr f) = (roots u root', f)

pub survives_ok : (s : State) → ((a : Act) → Survives s a → Clean s a) → (a : Act) → is_action a ≡ true → Survives s a → Ok s a
survives_ok s clean a act survives = let three = survives (top a) (on_top a) (top_acts a act) in ((clean a survives, inr three), inl three)

module _ {s : State} (h : Holds s) where
  -- a top that is decided counts, if it has a call
  pub decided_good : (c : Call) → In c s.calls → Alive s c.act → 2 ≤ (s.action (top c.act)).stage → Good s (top c.act)
  decided_good c i alive two =
      let three = alive (top c.act) (on_top c.act) in
      let p = (h.tops (top c.act) (top_is c.act (h.calls c i).acts)).called two three c i alive (sym (top_root c.act), inl refl) in
      record { alive = three; going = inr (omega (arith, two)); up = inr p.0; present = inr p.1 }

  -- the writes of a decided top stand at the recorded binding
  pub under : (c : Call) → In c s.calls → c.write ≡ true → Alive s c.act → (s.action (top c.act)).stage ≡ 2 →
      s.naming.first ≤ s.naming.recorded → s.kept (root c.act) ≡ s.naming.recorded
  under c i write alive two present =
      let tops = h.tops (top c.act) (top_is c.act (h.calls c i).acts) in
      let p = tops.called (omega (arith, two)) (omega (arith, two)) c i alive (sym (top_root c.act), inl refl) in
      let l = h.naming.doubt present c i write alive p.1 (omega (arith, two)) in
      let e : s.kept (root (top c.act)) ≡ s.kept (root c.act) = ap s.kept (top_root c.act) in
      sym e ∙ sym (((h.calls c i).sure alive).here (omega (arith, l, e)) (tops.goes (omega (arith, two)) (omega (arith, two)))).0

pub newest_on : (i j : ℕ) (T U : Act → Type 0) (v : ℕ) (cs : List Call) → i ≡ j → ((c : Call) → In c cs → c.write ≡ true → T c.act →
    U c.act) → ((c : Call) → In c cs → c.write ≡ true → U c.act → T c.act) → Newest i T v cs → Newest j U v cs
newest_on i j T U v [] e f g (none is) = none (sym e ∙ is)
newest_on i j T U v (c ∷ cs) e f g (newest _ w t is) = newest c w (f c (inl refl) w t) is
newest_on i j T U v (c ∷ cs) e f g (older _ never r) =
    older c (λ w u. never w (g c (inl refl) w u)) (newest_on i j T U v cs e (λ d k. f d (inr k)) (λ d k. g d (inr k)) r)

-- From one state to the next.
module _ {s t : State} (h : Holds s) (v : Values s) (later : Later s t) (w : ValueLater s t) where
  pub survives_on : (a : Act) → Survives s a → Survives t a
  survives_on a f u o act = (later.ends u (f u o act)).0

  pub fine_back : (a : Act) → is_action a ≡ true → Fine t a → Fine s a
  fine_back a act f = (w.clean a f.0, going f.1)
    where
      going : GoesOn t (root a) ⊎ ((t.action (top a)).stage ≡ 3) → GoesOn s (root a) ⊎ ((s.action (top a)).stage ≡ 3)
      going (inl g) = inl (goes_back later (root a) g)
      going (inr three) = elim (w.tops (top a) (top_is a act) three) [
        | inl e ↦ inr e
        | inr two ↦ inl
            (subst (λ (u : ℕ). GoesOn s u) (top_root a) ((h.tops (top a) (top_is a act)).goes (omega (arith, two)) (omega (arith, two))))
      ]

  pub ok_back : t.naming.recorded ≡ s.naming.recorded → s.naming.first ≤ s.naming.recorded → (c : Call) → In c s.calls → c.write ≡ true →
      Ok t c.act → Ok s c.act
  ok_back e present c i write ok = (fine, by ok.1)
    where
      fine : Fine s c.act
      fine = fine_back c.act (h.calls c i).acts ok.0

      by : ((t.action (top c.act)).stage ≡ 3) ⊎ (t.kept (root c.act) ≡ t.naming.recorded) →
          ((s.action (top c.act)).stage ≡ 3) ⊎ (s.kept (root c.act) ≡ s.naming.recorded)
      by (inl three) = elim (w.tops (top c.act) (top_is c.act (h.calls c i).acts) three)
          [ inl k ↦ inl k | inr two ↦ inr (under h c i write (clean_alive s c.act fine.0) two present) ]
      by (inr k) = inr (sym (later.keeps c i (clean_alive t c.act ok.0.0)) ∙ k ∙ e)

  pub last_on : (x : ℕ) (cs : List Call) → ((c : Call) → In c cs → c.write ≡ true → Survives t c.act → Survives s c.act) → IsLast s x cs →
      IsLast t x cs
  last_on x cs back l = newest_on s.initial t.initial (Survives s) (Survives t) x cs (sym w.initial) (λ c i e. survives_on c.act) back l

  -- the log still fits the calls
  module _ (same : t.naming.recorded ≡ s.naming.recorded) (present : s.naming.first ≤ s.naming.recorded) (oks : (a : Act) →
      is_action a ≡ true → Survives t a → Ok t a) where
    pub matches_on : (base : ℕ) (es : List Entry) (cs : List Call) → ((c : Call) → In c cs → In c s.calls) →
        ((e : Entry) → In e es → is_action e.by ≡ true) → Matches s base es cs → Matches t base es cs
    matches_on base [] cs sub acts (rest l f) =
        rest (last_on base cs
        (λ c i write survives. f c i write (ok_back same present c (sub c i) write (oks c.act (h.calls c (sub c i)).acts survives))) l)
        (λ c i write ok. survives_on c.act (f c i write (ok_back same present c (sub c i) write ok)))
    matches_on base (e ∷ es) (c ∷ cs) sub acts (both _ _ by gives write kept m) =
        both e c by gives write (λ fine. later.keeps c (sub c (inl refl)) (clean_alive t c.act fine.0) ∙ kept (fine_back c.act
        (h.calls c (sub c (inl refl))).acts fine) ∙ sym same) (matches_on base es cs (λ d i. sub d (inr i)) (λ d i. acts d (inr i)) m)
    matches_on base (e ∷ es) cs sub acts (more _ f m) =
        more e (λ fine. f (fine_back e.by (acts e (inl refl)) fine)) (matches_on base es cs sub (λ d i. acts d (inr i)) m)
    matches_on base es (c ∷ cs) sub acts (less _ f m) = less c (λ write ok. f write (ok_back same present c (sub c (inl refl)) write ok))
        (matches_on base es cs (λ d i. sub d (inr i)) acts m)

    none_on : (es : List Entry) → ((e : Entry) → In e es → (is_action e.by ≡ true) × (e.request ≤ (s.action e.by).request)) →
        NoneWaits s es → NoneWaits t es
    none_on es asked f e i waits fine = f e i (w.wait_back e.by e.request (asked e i).1 waits.0 waits.1) (fine_back e.by (asked e i).0 fine)

    -- a waiting write still waits, or is spoilt
    pub logged_on : (base : ℕ) (es : List Entry) → ((e : Entry) → In e es → (is_action e.by ≡ true) × (e.request ≤ (s.action e.by).request))
        → ((e : Entry) → In e es → IsWaiting s e → Fine t e.by → s.kept (root e.by) ≡ s.naming.recorded → IsWaiting t e) →
        Logged s base es s.calls → Logged t base es s.calls
    logged_on base es asked still (calm n m) = calm (none_on es asked n) (matches_on base es s.calls (λ c i. i) (λ e i. (asked e i).0) m)
    logged_on base (e ∷ es) asked still (bad _ f l) = bad e (λ fine. f (fine_back e.by (asked e (inl refl)).0 fine))
        (logged_on base es (λ d i. asked d (inr i)) (λ d i. still d (inr i)) l)
    logged_on base (e ∷ es) asked still (waiting _ f n m) =
        waiting e here (none_on es (λ d i. asked d (inr i)) n) (matches_on base es s.calls (λ c i. i) (λ d i. (asked d (inr i)).0) m)
      where
        here : Fine t e.by → IsWaiting t e × (t.kept (root e.by) ≡ t.naming.recorded)
        here fine =
            let act = (asked e (inl refl)).0 in
            let p = f (fine_back e.by act fine) in
            let q = still e (inl refl) p.0 fine p.1 in
            let alive : Alive t e.by = clean_alive t e.by fine.0 in
            let k = later.pend e.by e.request (asked e (inl refl)).1
            (record { last = q.0; waits = q.1; alive = alive; going = goes fine.1 p.0 alive }) in
            (q, k.2 ∙ p.1 ∙ sym same)
          where
            goes : GoesOn t (root e.by) ⊎ ((t.action (top e.by)).stage ≡ 3) → IsWaiting s e → Alive t e.by → GoesOn t (root e.by)
            goes (inl g) p alive = g
            goes (inr three) p alive =
                let act = (asked e (inl refl)).0 in
                let zero = v.path e.by p.1 (alive_back later e.by alive) (top e.by) (on_top e.by) (top_acts e.by act) in
                elim (w.tops (top e.by) (top_is e.by act) three)
                [ inl q ↦ absurd (omega (arith, zero, q)) | inr q ↦ absurd (omega (arith, zero, q)) ]

  -- What counts for a call stays the same.

  mine_on : (c d : Call) → In c s.calls → In d s.calls → c.line < d.line → c.write ≡ true → Clean t d.act → Good t (top d.act) →
      Mine s d.act c.act → Mine t d.act c.act
  mine_on c d i j line write clean good (inl f) = inl (survives_on c.act f)
  mine_on c d i j line write clean good (inr (e, f)) =
      elim (w.spoils c.act f) [ inl k ↦ inr (e, k) | inr (u, o, open', all') ↦ absurd (by u o open' all' (by_cases (on d.act u))) ]
    where
      kin : root c.act ≡ root d.act
      kin = sym (top_root c.act) ∙ ap root e ∙ top_root d.act

      by : (u : Act) → on c.act u ≡ true → (s.action u).stage ≢ 3 → ((b : Act) → on b u ≡ true → Clean t b → ⊥) →
          (on d.act u ≡ true) ⊎ (on d.act u ≡ false) → ⊥
      by u o open' all' (inl p) = all' d.act p clean
      by u o open' all' (inr p) = open' (h.nested c d i j line kin (inl write) (clean_alive s c.act f)
          (clean_alive s d.act (w.clean d.act clean)) (own_good h later d j (clean_alive t d.act clean) good) u o p).0

  mine_back : (c d : Call) → In c s.calls → In d s.calls → c.line < d.line → c.write ≡ true → Clean t d.act → Good t (top d.act) →
      ((a : Act) → Survives t a → Clean t a) → Mine t d.act c.act → Mine s d.act c.act
  mine_back c d i j line write clean good cleans (inr (e, f)) = inr (e, w.clean c.act f)
  mine_back c d i j line write clean good cleans (inl f) =
      elim (w.news c.act (h.calls c i).acts f) [ inl k ↦ inl k | inr two ↦ by two (number_cases (root c.act) (root d.act)) ]
    where
      number_cases : (x y : ℕ) → (x ≡ y) ⊎ (x ≢ y)
      number_cases x y = grind arith

      cc' : Clean s c.act
      cc' = w.clean c.act (cleans c.act f)

      cd : Alive s d.act
      cd = clean_alive s d.act (w.clean d.act clean)

      gd : Good s (top d.act)
      gd = own_good h later d j (clean_alive t d.act clean) good

      is : is_top (top c.act) ≡ true
      is = top_is c.act (h.calls c i).acts

      by : (s.action (top c.act)).stage ≡ 2 → (root c.act ≡ root d.act) ⊎ (root c.act ≢ root d.act) → Mine s d.act c.act
      by two (inr apart) =
          let g = decided_good h c i (clean_alive s c.act cc') (omega (arith, two)) in
          let k = h.pairs c d (top c.act) i j line apart (record {
            alive = clean_alive s c.act cc';
            good = g;
            top = is;
            unit = top_root c.act;
            member = inr (sym (top_root c.act), inl refl);
            counts = g;
          }) cd gd in
          absurd (let three = ((k.order (inl write)).1 write).0 in omega (arith, two, three))
      by two (inl kin) = elim (by_cases (on d.act (top c.act))) [
        | inl o ↦ inr (sym (top_of d.act (top c.act) is o), cc')
        | inr p ↦ absurd (let three = (h.nested c d i j line kin (inl write) (clean_alive s c.act cc') cd gd (top c.act) (on_top c.act)
            p).0 in omega (arith, two, three))
      ]

  pub seen_on : (cs : List Call) → ((c : Call) → In c cs → In c s.calls) → ((a : Act) → Survives t a → Clean t a) → Seen s cs → Seen t cs
  seen_on [] sub cleans x = tt
  seen_on (d ∷ cs) sub cleans (sorted, sees, tail) = (sorted, now, seen_on cs (λ c i. sub c (inr i)) cleans tail)
    where
      j : In d s.calls
      j = sub d (inl refl)

      now : Clean t d.act → Good t (top d.act) → Newest t.initial (Mine t d.act) d.sees cs
      now clean good = newest_on s.initial t.initial (Mine s d.act) (Mine t d.act) d.sees cs (sym w.initial)
          (λ c i write. mine_on c d (sub c (inr i)) j (sorted c i) write clean good)
          (λ c i write. mine_back c d (sub c (inr i)) j (sorted c i) write clean good cleans)
          (sees (w.clean d.act clean) (own_good h later d j (clean_alive t d.act clean) good))

  -- the same for a call that waits for its line
  module _ (r : Answer) (i : In (Invoked r) s.net) where
    pub pending_good : Pending s r.request.act r.request.number → s.naming.first ≤ s.kept (root r.request.act) →
        IsUp s (s.kept (root r.request.act)) → Good s (top r.request.act)
    pending_good p present up = record {
      alive = (let z = zero in omega (arith, z));
      going = inl (subst (λ (u : ℕ). GoesOn s u) (sym (top_root r.request.act)) p.going);
      up = inl (subst (λ (u : ℕ). IsUp s (s.kept u)) (sym (top_root r.request.act)) up);
      present = inl (subst (λ (u : ℕ). s.naming.first ≤ s.kept u) (sym (top_root r.request.act)) present);
    }
      where
        act : is_action r.request.act ≡ true
        act = (h.mail (Invoked r) i).0.0

        zero : (s.action (top r.request.act)).stage ≡ 0
        zero = (h.waits r.request.act p.waits p.alive p.going).path (top r.request.act) (on_top r.request.act) (top_acts r.request.act act)

    sees_mine_on : Pending s r.request.act r.request.number → Good s (top r.request.act) → (c : Call) → In c s.calls → c.write ≡ true →
        Clean t r.request.act → Mine s r.request.act c.act → Mine t r.request.act c.act
    sees_mine_on p good c j write clean (inl f) = inl (survives_on c.act f)
    sees_mine_on p good c j write clean (inr (e, f)) = elim (w.spoils c.act f)
        [ inl k ↦ inr (e, k) | inr (u, o, open', all') ↦ absurd (by u o open' all' (by_cases (on r.request.act u))) ]
      where
        kin : root c.act ≡ root r.request.act
        kin = sym (top_root c.act) ∙ ap root e ∙ top_root r.request.act

        by : (u : Act) → on c.act u ≡ true → (s.action u).stage ≢ 3 → ((b : Act) → on b u ≡ true → Clean t b → ⊥) →
            (on r.request.act u ≡ true) ⊎ (on r.request.act u ≡ false) → ⊥
        by u o open' all' (inl q) = all' r.request.act q clean
        by u o open' all' (inr q) = open' (passes h r i p good c j (clean_alive s c.act f) kin (inl write) s.now (omega arith) u o q).0

    sees_mine_back : Pending s r.request.act r.request.number → Good s (top r.request.act) → (c : Call) → In c s.calls → c.write ≡ true →
        ((a : Act) → Survives t a → Clean t a) → Mine t r.request.act c.act → Mine s r.request.act c.act
    sees_mine_back p good c j write cleans (inr (e, f)) = inr (e, w.clean c.act f)
    sees_mine_back p good c j write cleans (inl f) =
        elim (w.news c.act (h.calls c j).acts f) [ inl k ↦ inl k | inr two ↦ by two (number_cases (root c.act) (root r.request.act)) ]
      where
        number_cases : (x y : ℕ) → (x ≡ y) ⊎ (x ≢ y)
        number_cases x y = grind arith

        cc' : Clean s c.act
        cc' = w.clean c.act (cleans c.act f)

        is : is_top (top c.act) ≡ true
        is = top_is c.act (h.calls c j).acts

        by : (s.action (top c.act)).stage ≡ 2 → (root c.act ≡ root r.request.act) ⊎ (root c.act ≢ root r.request.act) →
            Mine s r.request.act c.act
        by two (inr apart) =
            let g = decided_good h c j (clean_alive s c.act cc') (omega (arith, two)) in
            let k = follows h r i p good c (top c.act) j (record {
              alive = clean_alive s c.act cc';
              good = g;
              top = is;
              unit = top_root c.act;
              member = inr (sym (top_root c.act), inl refl);
              counts = g;
            }) apart s.now (omega arith) in
            absurd (let three = ((k.order (inl write)).1 write).0 in omega (arith, two, three))
        by two (inl kin) = elim (by_cases (on r.request.act (top c.act))) [
          | inl o ↦ inr (sym (top_of r.request.act (top c.act) is o), cc')
          | inr q ↦ absurd (let three = (passes h r i p good c j (clean_alive s c.act cc') kin (inl write) s.now (omega arith) (top c.act)
              (on_top c.act) q).0 in omega (arith, two, three))
        ]

    pub sees_on : ((a : Act) → Survives t a → Clean t a) → SeesNow s r → Pending t r.request.act r.request.number → Clean t r.request.act →
        t.naming.first ≤ t.kept (root r.request.act) → IsUp t (t.kept (root r.request.act)) →
        Newest t.initial (Mine t r.request.act) r.sees s.calls
    sees_on cleans sees pt clean present up =
        newest_on s.initial t.initial (Mine s r.request.act) (Mine t r.request.act) r.sees s.calls (sym w.initial)
        (λ c j write. sees_mine_on p.0 good c j write clean) (λ c j write. sees_mine_back p.0 good c j write cleans)
        (sees p.0 (w.clean r.request.act clean) old_present old_up)
      where
        mean : Mean s (Invoked r)
        mean = h.mail (Invoked r) i

        p : Pending s r.request.act r.request.number × ((t.action r.request.act).since ≡ (s.action r.request.act).since)
            × (t.kept (root r.request.act) ≡ s.kept (root r.request.act))
        p = later.pend r.request.act r.request.number mean.0.1 pt

        binding : r.request.binding ≡ s.kept (root r.request.act)
        binding = mean.0.3 p.0

        named : (s.binding (s.kept (root r.request.act))).named ≡ true
        named = subst (λ (b : ℕ). (s.binding b).named ≡ true) binding mean.0.2

        bound : NamedHolds s (s.kept (root r.request.act))
        bound = h.bindings (s.kept (root r.request.act)) named

        old_present : s.naming.first ≤ s.kept (root r.request.act)
        old_present = let l = first_rises later in let e = p.2 in omega (arith, present, l, e)

        old_up : IsUp s (s.kept (root r.request.act))
        old_up = (up_back later (s.kept (root r.request.act)) named bound.below bound.reached (subst (λ (b : ℕ). IsUp t b) p.2 up)).0

        good : Good s (top r.request.act)
        good = pending_good p.0 old_present old_up
