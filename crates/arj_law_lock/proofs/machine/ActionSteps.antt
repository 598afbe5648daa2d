-- What a step of one coordinator has to show.
use Rattle.arj_law_lock.proofs.Terms
use Terms.{◌≡◌, ◌≤◌, ◌<◌, ◌⊎◌, ℕ, List, true, false, inl, inr, refl, sym, ap, arith, Act, Root, Sub, on, root, top, is_top, is_action, In}
use Terms.{Action, Call, Message, State, Alive, NobodyInDoubt, same, at_act}
use Rattle.arj_law_lock.proofs.machine
use machine.{Lasts.join, Lasts.top_on, Lasts.wait_on, Later.Later, NamingSteps.server_same}
use machine.Claims.{GoesOn, stands, Anchor, Pending, Mean, NamingHolds, TopHolds, Waits, Anti, Turns, Holds, own, unit, sibling}
use machine.Paths.{by_cases, differ, top_is, act_cases, act_here, act_other, same_is}

-- One action changes at its coordinator, and lines or a message may come.
module _ (s : State) (a : Act) (x : Action) (p : ℕ) (cs : List Call) (ms : List Message) where
  abbrev acted : State
  acted = record s { action = at_act s.action a x; now = p; calls = cs; net = ms }

  pub acted_here : (acted.action a) ≡ x
  acted_here = act_here s.action a x

  pub acted_other : (b : Act) → same b a ≡ false → acted.action b ≡ s.action b
  acted_other b f = act_other s.action a x b f

  -- what one has to say of the action
  pub record Moves : Type 0 where
    pub now : s.now ≤ p
    pub stage : (s.action a).stage ≤ x.stage
    pub ends : (s.action a).stage ≡ 3 → (x.stage ≡ 3) × (x.done ≡ (s.action a).done)
    pub fresh : is_action a ≡ true → x.stage ≡ 3 → ((s.action a).stage ≡ 3) ⊎ (s.now ≤ x.done)
    pub place : 1 ≤ (s.action a).stage → x.place ≡ (s.action a).place
    pub placed : (s.action a).place < s.now → x.place < p
    pub going : is_top a ≡ true → 1 ≤ x.stage → x.stage ≤ 3 → (1 ≤ (s.action a).stage) ⊎ GoesOn s (root a)
    pub request : (s.action a).request ≤ x.request
    pub unit : ((x.stage ≡ (s.action a).stage)) ⊎ (((is_action a ≡ true)
        × (1 ≤ x.stage → x.stage ≤ 2 → (1 ≤ (s.action a).stage → (s.action a).stage ≤ 2 → GoesOn s (root a)) → GoesOn s (root a)))
        ⊎ ((is_action a ≡ false) × ((t : Act) → is_top t ≡ true → root t ≡ root a → 1 ≤ (s.action t).stage → (s.action t).stage ≤ 2 → ⊥)))
    pub pend : (k : ℕ) → k ≤ (s.action a).request → k ≡ x.request → x.waits ≡ true →
        (k ≡ (s.action a).request) × ((s.action a).waits ≡ true) × (x.since ≡ (s.action a).since)

  module _ (m : Moves) where
    stage_on : (b : Act) → (s.action b).stage ≤ (acted.action b).stage
    stage_on = act_cases (λ (b : Act) (v : Action). (s.action b).stage ≤ v.stage) s.action a x m.stage (λ b f. omega arith)

    ends_on : (b : Act) → (s.action b).stage ≡ 3 → ((acted.action b).stage ≡ 3) × ((acted.action b).done ≡ (s.action b).done)
    ends_on = act_cases (λ (b : Act) (v : Action). (s.action b).stage ≡ 3 →
        (v.stage ≡ 3) × (v.done ≡ (s.action b).done)) s.action a x m.ends (λ b f e. (e, refl))

    fresh_on : (b : Act) → is_action b ≡ true → (acted.action b).stage ≡ 3 → ((s.action b).stage ≡ 3) ⊎ (s.now ≤ (acted.action b).done)
    fresh_on = act_cases (λ (b : Act) (v : Action). is_action b ≡ true → v.stage ≡ 3 →
        ((s.action b).stage ≡ 3) ⊎ (s.now ≤ v.done)) s.action a x m.fresh (λ b f act e. inl e)

    pub alive_before : (b : Act) → Alive acted b → Alive s b
    alive_before b h u o = let l = stage_on u in let k = h u o in omega (arith, l, k)

    pend_on : (b : Act) (k : ℕ) → k ≤ (s.action b).request → Pending acted b k →
        Pending s b k × ((acted.action b).since ≡ (s.action b).since) × (s.kept (root b) ≡ s.kept (root b))
    pend_on b k low pending =
        let q = act_cases (λ (c : Act) (v : Action). k ≤ (s.action c).request → k ≡ v.request → v.waits ≡ true →
        (k ≡ (s.action c).request) × ((s.action c).waits ≡ true) × (v.since ≡ (s.action c).since)) s.action a x (m.pend k)
        (λ c f l e w. (e, w, refl)) b low pending.last pending.waits in (
          record {
            last = q.0;
            waits = q.1;
            alive = alive_before b pending.alive;
            going = (let l = stage_on (Root (root b)) in let g = pending.going in omega (arith, l, g));
          },
          q.2,
          refl,
        )

    settled : ((c : Call) → In c cs → In c s.calls ⊎ (((acted.action (top c.act)).stage ≡ 0) × (s.now ≤ c.line))) → ((c : Call) →
        s.confirmed (top c.act) ≡ true → In c cs → (acted.action (top c.act)).stage ≡ 0 → ⊥) → NobodyInDoubt s → NobodyInDoubt acted
    settled fresh never d c i w alive conf two = elim (fresh c i) [
      | inl j ↦ d c j w (alive_before c.act alive) conf (let l = stage_on (top c.act) in omega (arith, l, two))
      | inr new ↦ absurd (never c conf i new.0)
    ]

    pub later_action : ((c : Call) → In c s.calls → In c cs) → ((c : Call) → In c cs → In c s.calls ⊎ (((acted.action (top c.act)).stage
        ≡ 0) × (s.now ≤ c.line))) → ((c : Call) → s.confirmed (top c.act) ≡ true → In c cs → (acted.action (top c.act)).stage ≡ 0 → ⊥)
        → Later s acted
    later_action calls fresh never = record {
      now = m.now;
      first = inl refl;
      recorded = omega arith;
      bound = omega arith;
      made = λ b l. (refl, refl);
      named = λ b e. (e, refl);
      server = λ k. server_same (s.server k);
      stage = stage_on;
      ends = ends_on;
      fresh = fresh_on;
      place =
          act_cases (λ (b : Act) (v : Action). 1 ≤ (s.action b).stage → v.place ≡ (s.action b).place) s.action a x m.place (λ b f l. refl);
      placed = act_cases (λ (b : Act) (v : Action). (s.action b).place < s.now →
          v.place < p) s.action a x m.placed (λ b f l. (let n = m.now in omega (arith, l, n)));
      going = act_cases (λ (b : Act) (v : Action). is_top b ≡ true → 1 ≤ v.stage → v.stage ≤ 3 →
          (1 ≤ (s.action b).stage) ⊎ GoesOn s (root b)) s.action a x m.going (λ b f is l k. inl l);
      units = λ y is l k f. units m.unit y is l k f;
      kept = λ u. omega arith;
      keeps = λ c i alive. refl;
      calls = calls;
      fresh_call = fresh;
      includes = λ c i. i;
      fresh_include = λ c i. inl i;
      pend = pend_on;
      request = act_cases (λ (b : Act) (v : Action). (s.action b).request ≤ v.request) s.action a x m.request (λ b f. omega arith);
      own = λ y b is l o. o;
      wrote = λ y g is l w. w;
      anchored = anchored;
      same_recorded = λ y is e f z. refl;
      current = λ b l current.
          record { present = current.present; unrecorded = current.unrecorded; untold = current.untold; last = current.last };
      settled = λ e d. settled fresh never d;
      stays = λ y b k h e alive one v up o row merged. stands h up o row (λ u q f. (ends_on u (merged u q f)).0);
      confirmed = λ y e. inl e;
      yes = λ y b e f. inl f;
      confirms = λ c i alive y is member e. inl e;
      confirms_include = λ c i alive y is member e. inl e;
    }
      where
        units : ((x.stage ≡ (s.action a).stage)) ⊎ (((is_action a ≡ true) × (1 ≤ x.stage → x.stage ≤ 2 →
            (1 ≤ (s.action a).stage → (s.action a).stage ≤ 2 → GoesOn s (root a)) → GoesOn s (root a))) ⊎ ((is_action a ≡ false)
            × ((t : Act) → is_top t ≡ true → root t ≡ root a → 1 ≤ (s.action t).stage → (s.action t).stage ≤ 2 → ⊥)))
            → (y : Act) → is_top y ≡ true → 1 ≤ (acted.action y).stage → (acted.action y).stage ≤ 2 →
            (1 ≤ (s.action y).stage → (s.action y).stage ≤ 2 → GoesOn s (root y)) → GoesOn acted (root y)
        units (inl e) y is l k f =
            let q = act_cases (λ (b : Act) (v : Action). v.stage ≡ (s.action b).stage) s.action a x e (λ b g. refl) in
            let qy = q y in let qr = q (Root (root y)) in
            let g = f (omega (arith, l, qy)) (omega (arith, k, qy)) in omega (arith, g, qr)
        units (inr (inl (act, top_goes))) y is l k f =
            let qr : acted.action (Root (root y)) ≡ s.action (Root (root y)) = acted_other (Root (root y)) (root_apart a (root y) act) in
            let qs : (acted.action (Root (root y))).stage ≡ (s.action (Root (root y))).stage = ap (λ (v : Action). v.stage) qr in
            let g = act_cases (λ (b : Act) (v : Action). 1 ≤ v.stage → v.stage ≤ 2 → (1 ≤ (s.action b).stage → (s.action b).stage ≤ 2 →
            GoesOn s (root b)) → GoesOn s (root b)) s.action a x top_goes (λ b w l' k' f'. f' l' k') y l k f in
            omega (arith, g, qs)
          where
            root_apart : (b : Act) (u : ℕ) → is_action b ≡ true → same (Root u) b ≡ false
            root_apart (Root v) u e = let never : false ≡ true = e in absurd (cc)
            root_apart (Sub b n) u e = refl
        units (inr (inr (root_act, none))) y is l k f =
            let qy : acted.action y ≡ s.action y = acted_other y (top_apart y a is root_act) in
            let qs : (acted.action y).stage ≡ (s.action y).stage = ap (λ (v : Action). v.stage) qy in
            let l' : 1 ≤ (s.action y).stage = omega (arith, l, qs) in let k' : (s.action y).stage ≤ 2 = omega (arith, k, qs) in
            let g = f l' k' in
            elim (by_cases (same (Root (root y)) a)) [
              | inl e ↦ absurd (none y is (ap root (same_is (Root (root y)) a e)) l' k')
              | inr e ↦ (let qr : (acted.action (Root (root y))).stage ≡ (s.action (Root (root y))).stage = ap (λ (v : Action). v.stage)
                  (acted_other (Root (root y)) e) in omega (arith, g, qr))
            ]
          where
            top_apart : (y b : Act) → is_top y ≡ true → is_action b ≡ false → same y b ≡ false
            top_apart (Root v) b e f = let never : false ≡ true = e in absurd (cc)
            top_apart (Sub c n) (Root v) e f = refl
            top_apart (Sub c n) (Sub d k) e f = let never : true ≡ false = f in absurd (cc)

        anchored : (k : ℕ) (y : Act) → is_top y ≡ true → 1 ≤ k → k ≤ 2 → s.naming.first ≡ s.naming.first → (acted.action y).stage ≤ 3 →
            GoesOn acted (root y) → ((s.action y).stage ≡ 3 → s.naming.confirmed y ≡ true) → Anchor s k y → Anchor acted k y
        anchored k y is one two e alive goes conf (own q) = own q
        anchored k y is one two e alive goes conf (unit l) = unit l
        anchored k y is one two e alive goes conf (sibling z it r three c q) = sibling z it r (ends_on z three).0 c q

    pub naming_action : Holds s → ((c : Call) → In c cs → In c s.calls ⊎ (((acted.action (top c.act)).stage ≡ 0) × (s.now ≤ c.line))) →
        ((c : Call) → s.confirmed (top c.act) ≡ true → In c cs → (acted.action (top c.act)).stage ≡ 0 → ⊥) → NamingHolds acted
    naming_action h fresh never = record {
      apart = h.naming.apart;
      told = λ y is e. elim (h.naming.told y is e) [
        | inl l ↦ inl (let k = stage_on y in omega (arith, k, l))
        | inr l ↦ inr (let k = stage_on (Root (root y)) in omega (arith, k, l))
      ];
      known = h.naming.known;
      recorded_below = h.naming.recorded_below;
      first_below = h.naming.first_below;
      first_above = h.naming.first_above;
      kept_below = h.naming.kept_below;
      made_below = h.naming.made_below;
      making = h.naming.making;
      doubt = λ l. settled fresh never (h.naming.doubt l);
    }

-- the same where no call comes
module _ (s : State) (h : Holds s) (a : Act) (x : Action) (p : ℕ) (ms : List Message) (m : Moves s a x p s.calls ms) where
  pub later_acted : Later s (record s { action = at_act s.action a x; now = p; net = ms })
  later_acted = later_action s a x p s.calls ms m (λ c i. i) (λ c i. inl i) (λ c conf i zero.
      let l = (h.tops (top c.act) (top_is c.act (h.calls c i).acts)).asked conf in
      let k = act_cases (λ (b : Act) (v : Action). (s.action b).stage ≤ v.stage) s.action a x m.stage (λ b f. omega arith) (top c.act) in
      omega (arith, l, k, zero))

  never : (c : Call) → s.confirmed (top c.act) ≡ true → In c s.calls → ((at_act s.action a x) (top c.act)).stage ≡ 0 → ⊥
  never c conf i zero =
      let l = (h.tops (top c.act) (top_is c.act (h.calls c i).acts)).asked conf in
      let k = later_acted.stage (top c.act) in
      omega (arith, l, k, zero)

  pub join_action : ((y : Act) → is_top y ≡ true → TopHolds (record s { action = at_act s.action a x; now = p; net = ms }) y) →
      Turns (record s { action = at_act s.action a x; now = p; net = ms }) → (is_action a ≡ true → x.stage ≡ 3 → x.done < p)
      → ((b : Act) → Waits (record s { action = at_act s.action a x; now = p; net = ms }) b) →
      Anti (record s { action = at_act s.action a x; now = p; net = ms }) → ((y : Message) → In y ms → In y s.net ⊎ Mean (record s
      { action = at_act s.action a x; now = p; net = ms }) y) → Holds (record s { action = at_act s.action a x; now = p; net = ms })
  join_action tops turns ended waits anti mail =
      join h later_acted (naming_action s a x p s.calls ms m h (λ c i. inl i) never) (λ b e. inl e) h.servers (λ c i. i) (λ c i. inl i) tops
      turns
      (act_cases (λ (b : Act) (v : Action). is_action b ≡ true → v.stage ≡ 3 →
      v.done < p) s.action a x ended (λ b f act e. (let l = h.ended b act e in let n = m.now in omega (arith, l, n))))
      waits anti mail

  -- tops of which nothing changed that counts
  pub tops_action : (((s.action a).stage ≡ x.stage) ⊎ (is_top a ≡ false)) → (y : Act) → is_top y ≡ true →
      TopHolds (record s { action = at_act s.action a x; now = p; net = ms }) y
  tops_action e y is = top_on h later_acted y is (act_cases (λ (b : Act) (v : Action). is_top b ≡ true →
      v.stage ≡ (s.action b).stage) s.action a x (λ it. by it e) (λ b f it. refl) y is) refl refl
    where
      by : is_top a ≡ true → ((s.action a).stage ≡ x.stage) ⊎ (is_top a ≡ false) → x.stage ≡ (s.action a).stage
      by it (inl q) = sym q
      by it (inr f) = differ it f

  pub turns_action : ((is_top a ≡ true → (x.stage ≡ (s.action a).stage) × (x.place ≡ (s.action a).place) × (x.done ≡ (s.action a).done))) →
      Turns (record s { action = at_act s.action a x; now = p; net = ms })
  turns_action still y z is it r apart ly lz =
      let ey = same_action y is in
      let ez = same_action z it in
      let e0 = ey.0 in let e1 = ey.1 in let e2 = ey.2 in let f0 = ez.0 in let f1 = ez.1 in let f2 = ez.2 in
      let l0 = ly.0 in let l1 = ly.1 in let k0 = lz.0 in let k1 = lz.1 in
      elim (h.turns y z is it r apart (omega (arith, l0, e0), omega (arith, l1, e0)) (omega (arith, k0, f0), omega (arith, k1, f0))) [
        | inl d ↦ inl (let d0 = d.0 in omega (arith, d0, e0), let d1 = d.1 in omega (arith, d1, e2, f1))
        | inr d ↦ inr (let d0 = d.0 in omega (arith, d0, f0), let d1 = d.1 in omega (arith, d1, f2, e1))
      ]
    where
      same_action : (b : Act) → is_top b ≡ true → (((at_act s.action a x) b).stage ≡ (s.action b).stage)
          × (((at_act s.action a x) b).place ≡ (s.action b).place) × (((at_act s.action a x) b).done ≡ (s.action b).done)
      same_action = act_cases (λ (b : Act) (v : Action). is_top b ≡ true → (v.stage ≡ (s.action b).stage) × (v.place ≡ (s.action b).place)
          × (v.done ≡ (s.action b).done)) s.action a x still (λ b f it. (refl, refl, refl))

  -- waiting actions where the changed one's path part stays open
  pub waits_action : ((b : Act) → on b a ≡ true → is_action a ≡ true → (s.action a).stage ≡ 0 → ((at_act s.action a x) b).waits ≡ true →
      Alive (record s { action = at_act s.action a x; now = p; net = ms }) b → x.stage ≡ 0) → (b : Act) →
      (((at_act s.action a x) b).request ≤ (s.action b).request) → Waits (record s { action = at_act s.action a x; now = p; net = ms }) b
  waits_action path b low = wait_on h later_acted b low (λ u o act zero w alive. opened u o act zero w alive) (λ c i. inl i)
    where
      opened : (u : Act) → on b u ≡ true → is_action u ≡ true → (s.action u).stage ≡ 0 → ((at_act s.action a x) b).waits ≡ true →
          Alive (record s { action = at_act s.action a x; now = p; net = ms }) b → ((at_act s.action a x) u).stage ≡ 0
      opened u o act zero w alive = act_cases (λ (c : Act) (v : Action). on b c ≡ true → is_action c ≡ true → (s.action c).stage ≡ 0 →
          v.stage ≡ 0) s.action a x (λ o' act' zero'. path b o' act' zero' w alive) (λ c f o' act' zero'. zero') u o act zero

  pub anti_action : (x.waits ≡ true → (s.action a).waits ≡ true) → Anti (record s { action = at_act s.action a x; now = p; net = ms })
  anti_action still b c wb ab wc ac o =
      h.anti b c (waits b wb) (alive_before s a x p s.calls ms m b ab) (waits c wc) (alive_before s a x p s.calls ms m c ac) o
    where
      waits : (b : Act) → ((at_act s.action a x) b).waits ≡ true → (s.action b).waits ≡ true
      waits = act_cases (λ (b : Act) (v : Action). v.waits ≡ true → (s.action b).waits ≡ true) s.action a x still (λ b f w. w)

  pub low_requests : x.request ≤ (s.action a).request → (b : Act) → ((at_act s.action a x) b).request ≤ (s.action b).request
  low_requests l = act_cases (λ (b : Act) (v : Action). v.request ≤ (s.action b).request) s.action a x l (λ b f. omega arith)
