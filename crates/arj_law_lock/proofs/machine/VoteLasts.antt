-- What a vote gives, and that it lasts.
use Rattle.arj_law_lock.proofs.Terms
use Terms.{◌≡◌, ◌≢◌, ◌≤◌, ◌<◌, ◌⊎◌, ℕ, List, [], ◌∷◌, true, false, inl, inr, refl, sym, ◌∙◌, ap, subst, arith, Act, same, on, root, top}
use Terms.{is_top, is_action, In, Call, Ballot, Confirm, State, Alive, Covered, Newest, IsLast, Survives}
use Rattle.arj_law_lock.proofs.machine
use machine.{CallSteps.top_acts, Lasts.kept_holds, ValueClaims.Seen, ValueClaims.Values, ValueServers.survives_of}
use machine.Claims.{Good, Counts, Holds}
use machine.Later.{Later, alive_back, first_rises, covered_back}
use machine.Paths.{by_cases, differ, on_top, above_top, top_is, top_root, top_of}
use machine.ValueLasts.{clean_alive, survives_clean, newest_on, decided_good}

-- What a vote gives stays right until the top is decided, and what it stands on until it is reported.

-- the calls of the top that weren't undone
abbrev pub Theirs : State → Act → Act → Type 0
Theirs s m a = (top a ≡ m) × Alive s a

-- A top votes under its root's kept binding, which naming still knows or has confirmed.
pub record HasVoted (s : State) (m : Act) (c : Call) : Type 0 where
  pub called : 1 ≤ (s.action m).stage
  pub alive : (s.action m).stage ≤ 3
  pub call : In c s.calls
  pub write : c.write ≡ true
  pub stands : Theirs s m c.act
  pub yes : s.yes m ≡ s.kept (root m)
  pub present : (s.naming.first ≤ s.kept (root m)) ⊎ (s.confirmed m ≡ true)

abbrev pub MeansVoted : State → Act → Type 0
MeansVoted s m = (c : Call) → In c s.calls → Alive s c.act → Covered s m c.act → s.yes m ≡ s.kept (root m)

pub record VoteHolds (s : State) (m : Act) : Type 0 where
  pub asked : s.confirmed m ≡ true → MeansVoted s m
  pub right : (c : Call) → HasVoted s m c → Newest s.initial (Theirs s m) (s.vote m).value s.calls
  pub under : (c : Call) → HasVoted s m c → (s.action m).stage ≤ 2 → IsLast s (s.vote m).under s.calls

pub record Votes (s : State) : Type 0 where
  pub tops : (m : Act) → is_top m ≡ true → VoteHolds s m
  pub mail : (m : Act) (q : ℕ) → In (Confirm m q) s.net → MeansVoted s m

-- two calls of one line are one
one_line : (s : State) (cs : List Call) → Seen s cs → (c d : Call) → In c cs → In d cs → c.line ≡ d.line → c ≡ d
one_line s (x ∷ cs) (sorted, sees, tail) c d (inl i) (inl j) e = i ∙ sym j
one_line s (x ∷ cs) (sorted, sees, tail) c d (inl i) (inr j) e =
    absurd (let l = sorted d j in let k : c.line ≡ x.line = ap (λ (y : Call). y.line) i in omega (arith, l, k, e))
one_line s (x ∷ cs) (sorted, sees, tail) c d (inr i) (inl j) e =
    absurd (let l = sorted c i in let k : d.line ≡ x.line = ap (λ (y : Call). y.line) j in omega (arith, l, k, e))
one_line s (x ∷ cs) (sorted, sees, tail) c d (inr i) (inr j) e = one_line s cs tail c d i j e
one_line s [] x c d i j e = absurd i

module _ {s : State} (h : Holds s) (v : Values s) (m : Act) (is : is_top m ≡ true) (c : Call) (k : HasVoted s m c) where
  voted_good : Good s m
  voted_good = record { alive = k.alive; going = inr k.called; up = inr k.yes; present = k.present }

  root_is' : root m ≡ root c.act
  root_is' = ap root (sym k.stands.0) ∙ top_root c.act

  counts_voted : Counts s c m
  counts_voted = record {
    alive = k.stands.1;
    good = subst (λ (y : Act). Good s y) (sym k.stands.0) voted_good;
    top = is;
    unit = root_is';
    member = inr (sym root_is', inl k.stands.0);
    counts = voted_good;
  }

  -- another top with a surviving write was committed before the call's line
  alone : (s.action m).stage ≤ 2 → (d : Call) → In d s.calls → d.write ≡ true → Alive s d.act → (s.action (top d.act)).stage ≡ 3 →
      (s.action (top d.act)).done < c.line
  alone low d j write alive three = by (order_cases c.line d.line) (number_cases (root c.act) (root d.act))
    where
      order_cases : (x y : ℕ) → (x < y) ⊎ ((x ≡ y) ⊎ (y < x))
      order_cases x y = grind arith

      number_cases : (x y : ℕ) → (x ≡ y) ⊎ (x ≢ y)
      number_cases x y = grind arith

      apart : top d.act ≢ m
      apart e = let q : (s.action (top d.act)).stage ≡ (s.action m).stage = ap (λ (y : Act). (s.action y).stage) e in
          omega (arith, three, q, low)

      good : Good s (top d.act)
      good = decided_good h d j alive (omega (arith, three))

      it : is_top (top d.act) ≡ true
      it = top_is d.act (h.calls d j).acts

      own : Good s (top c.act)
      own = subst (λ (y : Act). Good s y) (sym k.stands.0) voted_good

      undone : (s.action (top c.act)).stage ≡ 3 → (s.action (top d.act)).done < c.line
      undone e = absurd (let q : (s.action (top c.act)).stage ≡ (s.action m).stage = ap (λ (y : Act). (s.action y).stage) k.stands.0 in
          omega (arith, e, q, low))

      by : (c.line < d.line) ⊎ ((c.line ≡ d.line) ⊎ (d.line < c.line)) → (root c.act ≡ root d.act) ⊎ (root c.act ≢ root d.act) →
          (s.action (top d.act)).done < c.line
      by (inr (inl e)) w = absurd (apart (ap (λ (y : Call). top y.act) (sym (one_line s s.calls v.seen c d k.call j e)) ∙ k.stands.0))
      by (inl l) (inr f) = undone (((h.pairs c d m k.call j l f counts_voted alive good).order (inl k.write)).1 k.write).0
      by (inl l) (inl e) = undone (h.nested c d k.call j l e (inl k.write) k.stands.1 alive good (top c.act) (on_top c.act)
          (elim (by_cases (on d.act (top c.act)))
          [ inl o ↦ absurd (apart (top_of d.act (top c.act) (top_is c.act (h.calls c k.call).acts) o ∙ k.stands.0)) | inr g ↦ g ])).0
      by (inr (inr l)) (inr f) = (((h.pairs d c (top d.act) j k.call l (λ e. f (sym e)) (record {
        alive = alive;
        good = good;
        top = it;
        unit = top_root d.act;
        member = inr (sym (top_root d.act), inl refl);
        counts = good;
      }) k.stands.1 own).order (inl write)).1 write).1
      by (inr (inr l)) (inl e) = (h.nested d c j k.call l (sym e) (inl write) alive k.stands.1 own (top d.act) (on_top d.act)
          (elim (by_cases (on c.act (top d.act)))
          [ inl o ↦ absurd (apart (sym (top_of c.act (top d.act) it o) ∙ k.stands.0)) | inr g ↦ g ])).1

-- From one state to the next, where no vote is given.
module _ {s t : State} (h : Holds s) (v : Values s) (later : Later s t) (ht : Holds t) (vt : Values t)
    (initial : t.initial ≡ s.initial) where
  keeps_alive : (m : Act) → is_top m ≡ true → 1 ≤ (s.action m).stage → (t.action m).stage ≤ 3 → (c : Call) → In c s.calls →
      Theirs s m c.act → Theirs t m c.act
  keeps_alive m is one three c i (e, alive) = (e, λ u o. by u o (by_cases (is_action u)) (by_cases (on m u)))
    where
      by : (u : Act) → on c.act u ≡ true → (is_action u ≡ true) ⊎ (is_action u ≡ false) → (on m u ≡ true) ⊎ (on m u ≡ false) →
          (t.action u).stage ≤ 3
      by u o (inr root') x = vt.roots u root'
      by u o (inl act) (inl x) = elim (above_top m u is x)
          [ inl q ↦ subst (λ (y : Act). (t.action y).stage ≤ 3) (sym q) three | inr q ↦ differ act (ap is_action q) ]
      by u o (inl act) (inr f) = let p = (later.ends u (v.whole c i alive (subst (λ (y : Act). 1 ≤ (s.action y).stage) (sym e) one) u o
          (subst (λ (y : Act). on y u ≡ false) (sym e) f))).0 in omega (arith, p)

  -- one that has voted had voted before
  had_voted : (m : Act) → is_top m ≡ true → (c : Call) → HasVoted t m c → t.yes m ≡ s.yes m → HasVoted s m c
  had_voted m is c k same = record {
    called = called;
    alive = (let l = later.stage m in let q = k.alive in omega (arith, l, q));
    call = old;
    write = k.write;
    stands = (k.stands.0, back);
    yes = yes';
    present = present k.present;
  }
    where
      old : In c s.calls
      old = elim (later.fresh_call c k.call) [
        | inl i ↦ i
        | inr new ↦ absurd (let e : (t.action (top c.act)).stage ≡ (t.action m).stage = ap (λ (y : Act). (t.action y).stage) k.stands.0 in
            let z = new.0 in let o = k.called in omega (arith, e, z, o))
      ]

      back : Alive s c.act
      back = alive_back later c.act k.stands.1

      r : root c.act ≡ root m
      r = sym (top_root c.act) ∙ ap root k.stands.0

      kept : t.kept (root m) ≡ s.kept (root m)
      kept = ap t.kept (sym r) ∙ later.keeps c old k.stands.1 ∙ ap s.kept r

      yes' : s.yes m ≡ s.kept (root m)
      yes' = sym same ∙ k.yes ∙ kept

      called : 1 ≤ (s.action m).stage
      called = (h.tops m is).voting (let p = (kept_holds h c old back).positive in
          let e : s.kept (root c.act) ≡ s.kept (root m) = ap s.kept r in let y = yes' in omega (arith, p, e, y))

      present : (t.naming.first ≤ t.kept (root m)) ⊎ (t.confirmed m ≡ true) → (s.naming.first ≤ s.kept (root m)) ⊎ (s.confirmed m ≡ true)
      present (inl l) = inl (let f = first_rises later in let e = kept in omega (arith, l, f, e))
      present (inr conf) = elim (later.confirms c old k.stands.1 m is (inr (r, inl k.stands.0)) conf) [ inl e ↦ inr e | inr l ↦ inl l ]

  -- the calls that come count for no called top
  abbrev Grows : Type 1
  Grows = (T : Act → Type 0) (x : ℕ) → ((a : Act) → is_action a ≡ true → (t.action (top a)).stage ≡ 0 → T a → ⊥) →
      Newest t.initial T x s.calls → Newest t.initial T x t.calls

  pub right_on : Grows → (m : Act) → is_top m ≡ true → t.yes m ≡ s.yes m → t.vote m ≡ s.vote m → VoteHolds s m → (c : Call) →
      HasVoted t m c → Newest t.initial (Theirs t m) (t.vote m).value t.calls
  right_on grows m is same vote o c k = subst (λ (y : Ballot). Newest t.initial (Theirs t m) y.value t.calls) (sym vote)
      (grows (Theirs t m) (s.vote m).value (λ a act z q. let e : (t.action (top a)).stage ≡ (t.action m).stage = ap
      (λ (y : Act). (t.action y).stage) q.0 in let l = k.called in omega (arith, z, e, l))
      (newest_on s.initial t.initial (Theirs s m) (Theirs t m) (s.vote m).value s.calls (sym initial)
      (λ d i wr q. keeps_alive m is old.called k.alive d i q) (λ d i wr q. (q.0, alive_back later d.act q.1)) (o.right c old)))
    where
      old : HasVoted s m c
      old = had_voted m is c k same

  pub under_on : Grows → (m : Act) → is_top m ≡ true → t.yes m ≡ s.yes m → t.vote m ≡ s.vote m → VoteHolds s m → (c : Call) →
      HasVoted t m c → (t.action m).stage ≤ 2 → IsLast t (t.vote m).under t.calls
  under_on grows m is same vote o c k low = subst (λ (y : Ballot). IsLast t y.under t.calls) (sym vote)
      (grows (Survives t) (s.vote m).under (λ a act z f. let e = f (top a) (on_top a) (top_acts a act) in omega (arith, z, e))
      (newest_on s.initial t.initial (Survives s) (Survives t) (s.vote m).under s.calls (sym initial)
      (λ d i wr f u x act. (later.ends u (f u x act)).0) back (o.under c old (let l = later.stage m in omega (arith, l, low)))))
    where
      old : HasVoted s m c
      old = had_voted m is c k same

      back : (d : Call) → In d s.calls → d.write ≡ true → Survives t d.act → Survives s d.act
      back d i write f = elim (later.fresh (top d.act) (top_acts d.act (h.calls d i).acts) three) [
        | inl e ↦ survives_of s h v d i (alive_back later d.act alive) e
        | inr new ↦ absurd (let l = alone ht vt m is c k low d (later.calls d i) write alive three in let z = (h.calls c old.call).before in
            omega (arith, l, z, new))
      ]
        where
          three : (t.action (top d.act)).stage ≡ 3
          three = f (top d.act) (on_top d.act) (top_acts d.act (h.calls d i).acts)

          alive : Alive t d.act
          alive = clean_alive t d.act (survives_clean t vt.doomed vt.roots d.act f)

  pub meant_on : (m : Act) → is_top m ≡ true → 1 ≤ (s.action m).stage →
      (s.yes m ≡ s.kept (root m) → t.kept (root m) ≡ s.kept (root m) → t.yes m ≡ t.kept (root m)) → MeansVoted s m → MeansVoted t m
  meant_on m is one yes' f c i alive covers = by (later.fresh_call c i)
    where
      by : In c s.calls ⊎ (((t.action (top c.act)).stage ≡ 0) × (s.now ≤ c.line)) → t.yes m ≡ t.kept (root m)
      by (inl j) = yes' (f c j (alive_back later c.act alive) (covered_back later m c.act (h.calls c j).acts one (h.tops m is).before
          covers)) (ap t.kept (sym covers.0) ∙ later.keeps c j alive ∙ ap s.kept covers.0)
      by (inr new) = absurd (elim covers.1 [
        | inl e ↦ (let q : (t.action (top c.act)).stage ≡ (t.action m).stage = ap (λ (y : Act). (t.action y).stage) e in let z = new.0 in
            let l = later.stage m in omega (arith, q, z, l, one))
        | inr p ↦ (let z = new.0 in let three = p.0 in omega (arith, z, three))
      ])

  -- the whole
  pub votes_on : Grows → ((m : Act) → t.yes m ≡ s.yes m) → ((m : Act) → t.vote m ≡ s.vote m) →
      ((m : Act) → is_top m ≡ true → t.confirmed m ≡ true → (s.confirmed m ≡ true) ⊎ ((q : ℕ) × In (Confirm m q) s.net)) →
      ((m : Act) (q : ℕ) → In (Confirm m q) t.net → In (Confirm m q) s.net ⊎ MeansVoted t m) → Votes s → Votes t
  votes_on grows yes' vote conf mail o = record {
    tops = λ m is. record {
      asked = λ e. elim (conf m is e) [
        | inl f ↦ meant_on m is ((h.tops m is).asked f) (λ y k. yes' m ∙ y ∙ sym k) ((o.tops m is).asked f)
        | inr p ↦ meant_on m is (h.mail (Confirm m p.0) p.1).1 (λ y k. yes' m ∙ y ∙ sym k) (o.mail m p.0 p.1)
      ];
      right = right_on grows m is (yes' m) (vote m) (o.tops m is);
      under = under_on grows m is (yes' m) (vote m) (o.tops m is);
    };
    mail = λ m q i. elim (mail m q i)
        [ inl j ↦ meant_on m (h.mail (Confirm m q) j).0 (h.mail (Confirm m q) j).1 (λ y k. yes' m ∙ y ∙ sym k) (o.mail m q j) | inr f ↦ f ];
  }
