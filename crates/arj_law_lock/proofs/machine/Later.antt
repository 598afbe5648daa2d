-- What no step takes back, and that every claim lasts.
use Rattle.arj_law_lock.proofs.Terms
use Terms.{◌≡◌, ◌≤◌, ◌<◌, ◌⊎◌, ℕ, Bool, true, false, inl, inr, refl, sym, ◌∙◌, ap, subst, arith, Act, Root, Sub, on, root, top, is_top}
use Terms.{is_action, In, mode, Server, Call, Include, State, Alive, Merged, Passed, Covered, IsCurrent, NobodyInDoubt}
use Rattle.arj_law_lock.proofs.machine
use machine.Claims.{server_of, IsUp, Reached, IsPast, GoesOn, Covers, gone, over, dropped, stands, Anchor, Sure, Good, Own, Wrote, Entered}
use machine.Claims.{Doubtless, Pending, NamedHolds, Done, Before, Member}

pub record ServerLater (v w : Server) : Type 0 where
  pub rises : v.incarnation ≤ w.incarnation
  pub active : v.incarnation ≡ w.incarnation → v.active ≤ w.active
  pub voted : v.incarnation ≡ w.incarnation → (m : Act) → v.voted m ≡ true → w.voted m ≡ true

pub record Later (s t : State) : Type 0 where
  pub now : s.now ≤ t.now
  pub first : (t.naming.first ≡ s.naming.first) ⊎ ((s.naming.bound ≤ t.naming.first) × (s.naming.first < t.naming.first))
  pub recorded : s.naming.recorded ≤ t.naming.recorded
  pub bound : s.naming.bound ≤ t.naming.bound
  pub made : (b : ℕ) → b < s.naming.bound → ((t.binding b).server ≡ (s.binding b).server) × ((t.binding b).maker ≡ (s.binding b).maker)
  pub named : (b : ℕ) → (s.binding b).named ≡ true → ((t.binding b).named ≡ true) × ((t.binding b).incarnation ≡ (s.binding b).incarnation)
  pub server : (n : ℕ) → ServerLater (s.server n) (t.server n)
  pub stage : (a : Act) → (s.action a).stage ≤ (t.action a).stage
  pub ends : (a : Act) → (s.action a).stage ≡ 3 → ((t.action a).stage ≡ 3) × ((t.action a).done ≡ (s.action a).done)
  pub fresh : (a : Act) → is_action a ≡ true → (t.action a).stage ≡ 3 → ((s.action a).stage ≡ 3) ⊎ (s.now ≤ (t.action a).done)
  pub place : (a : Act) → 1 ≤ (s.action a).stage → (t.action a).place ≡ (s.action a).place
  pub placed : (a : Act) → (s.action a).place < s.now → (t.action a).place < t.now
  pub going : (m : Act) → is_top m ≡ true → 1 ≤ (t.action m).stage → (t.action m).stage ≤ 3 → (1 ≤ (s.action m).stage) ⊎ GoesOn s (root m)
  pub units : (m : Act) → is_top m ≡ true → 1 ≤ (t.action m).stage → (t.action m).stage ≤ 2 →
      (1 ≤ (s.action m).stage → (s.action m).stage ≤ 2 → GoesOn s (root m)) → GoesOn t (root m)
  pub kept : (u : ℕ) → s.kept u ≤ t.kept u
  pub keeps : (c : Call) → In c s.calls → Alive t c.act → t.kept (root c.act) ≡ s.kept (root c.act)
  pub calls : (c : Call) → In c s.calls → In c t.calls
  pub fresh_call : (c : Call) → In c t.calls → In c s.calls ⊎ (((t.action (top c.act)).stage ≡ 0) × (s.now ≤ c.line))
  pub includes : (c : Include) → In c s.includes → In c t.includes
  pub fresh_include : (c : Include) → In c t.includes → In c s.includes ⊎ (((t.action (top c.act)).stage ≡ 0) × (s.now ≤ c.line))
  pub pend : (a : Act) (k : ℕ) → k ≤ (s.action a).request → Pending t a k →
      Pending s a k × ((t.action a).since ≡ (s.action a).since) × (t.kept (root a) ≡ s.kept (root a))
  pub request : (a : Act) → (s.action a).request ≤ (t.action a).request
  pub own : (m : Act) (b : ℕ) → is_top m ≡ true → b < s.naming.bound → Own s m b → Own t m b
  pub wrote : (m : Act) (g : ℕ) → is_top m ≡ true → g ≤ s.naming.first → Wrote s m g → Wrote t m g
  pub anchored : (k : ℕ) (m : Act) → is_top m ≡ true → 1 ≤ k → k ≤ 2 → t.naming.first ≡ s.naming.first → (t.action m).stage ≤ 3 →
      GoesOn t (root m) → ((s.action m).stage ≡ 3 → s.naming.confirmed m ≡ true) → Anchor s k m → Anchor t k m
  pub same_recorded : (m : Act) → is_top m ≡ true → t.naming.first ≡ s.naming.first → s.naming.recorded ≡ s.kept (root m) → Anchor s 1 m →
      t.naming.recorded ≡ s.naming.recorded
  pub current : (b : ℕ) → b < s.naming.bound → IsCurrent t.naming (t.binding b).maker b → IsCurrent s.naming (s.binding b).maker b
  pub settled : t.naming.first ≡ s.naming.first → NobodyInDoubt s → NobodyInDoubt t
  pub stays : (a : Act) (b k : ℕ) (h : Act) → (s.binding b).named ≡ true → Alive t a → 1 ≤ k → ((s.action (top a)).stage ≡ 3 → IsUp s b →
      (server_of s b).voted (top a) ≡ true) → IsUp s b → on a h ≡ true → k ≤ (server_of s b).rows h → Merged s a h → Covers t a b k
  pub confirmed : (m : Act) → s.naming.confirmed m ≡ true →
      (t.naming.confirmed m ≡ true) ⊎ ((s.naming.bound ≤ t.naming.first) × (s.naming.first < t.naming.first))
  pub yes : (m : Act) (b : ℕ) → (s.binding b).named ≡ true → t.yes m ≡ b → (s.yes m ≡ b) ⊎ IsUp s b
  pub confirms : (c : Call) → In c s.calls → Alive t c.act → (m : Act) → is_top m ≡ true → Member s m c.act → t.confirmed m ≡ true →
      (s.confirmed m ≡ true) ⊎ (s.naming.first ≤ s.kept (root m))
  pub confirms_include : (c : Include) → In c s.includes → Alive t c.act → (m : Act) → is_top m ≡ true → Member s m c.act →
      t.confirmed m ≡ true → (s.confirmed m ≡ true) ⊎ (s.naming.first ≤ c.grant)

-- Paths and ends.

module _ {s t : State} (later : Later s t) where
  pub alive_back : (a : Act) → Alive t a → Alive s a
  alive_back a h u o = let l = later.stage u in let k = h u o in omega (arith, l, k)

  pub goes_back : (u : ℕ) → GoesOn t u → GoesOn s u
  goes_back u h = let l = later.stage (Root u) in omega (arith, l, h)

  pub merged_on : (a b : Act) → Merged s a b → Merged t a b
  merged_on a b h u o e = (later.ends u (h u o e)).0

  pub passed_on : (a b : Act) (p : ℕ) → Passed s a b p → Passed t a b p
  passed_on a b p h u o e = let l = h u o e in let k = later.ends u l.0 in (k.0, (let l' = l.1 in let k' = k.1 in omega (arith, l', k')))

  pub done_on : (m : Act) (p : ℕ) → Done s m p → Done t m p
  done_on m p h = let k = later.ends m h.0 in (k.0, (let l = h.1 in let e = k.1 in omega (arith, l, e)))

  pub before_on : (m : Act) (p : ℕ) → Before s m p → Before t m p
  before_on m p h = let e = later.place m h.0 in let l = later.stage m in
      ((let l0 = h.0 in omega (arith, l, l0)), (let l1 = h.1 in omega (arith, e, l1)))

  pub covered_back : (m a : Act) → is_action a ≡ true → 1 ≤ (s.action m).stage → (s.action m).place < s.now → Covered t m a → Covered s m a
  covered_back m a act one line (r, inl is) = (r, inl is)
  covered_back m a act one line (r, inr (done, less)) = by (later.fresh (top a) (top_act a act) done)
    where
      top_act : (a : Act) → is_action a ≡ true → is_action (top a) ≡ true
      top_act (Root u) e = e
      top_act (Sub (Root u) n) e = refl
      top_act (Sub (Sub b k) n) e = top_act (Sub b k) refl

      p : (t.action m).place ≡ (s.action m).place
      p = later.place m one

      by : ((s.action (top a)).stage ≡ 3) ⊎ (s.now ≤ (t.action (top a)).done) → Covered s m a
      by (inl old) = let e = (later.ends (top a) old).1 in let q = p in (r, inr (old, omega (arith, less, e, q)))
      by (inr new) = let q = p in absurd (omega (arith, less, new, line, q))

  pub first_rises : s.naming.first ≤ t.naming.first
  first_rises = elim later.first [ inl e ↦ omega (arith, e) | inr p ↦ (let l = p.1 in omega (arith, l)) ]

  -- nothing of a current binding is in doubt
  pub doubt_on : (b : ℕ) → b < s.naming.bound → Doubtless s b → Doubtless t b
  doubt_on b l d current = elim later.first [
    | inl e ↦ later.settled e (d (later.current b l current))
    | inr crash ↦ absurd (let g = crash.0 in let p = current.present in omega (arith, g, p, l))
  ]

  -- Copies.

  pub reached_on : (n i b : ℕ) → Reached (s.server n) i b → Reached (t.server n) i b
  reached_on n i b (inl less) = let l = (later.server n).rises in inl (omega (arith, less, l))
  reached_on n i b (inr (e, less)) = by (leq (s.server n).incarnation (t.server n).incarnation (later.server n).rises)
    where
      leq : (x y : ℕ) → x ≤ y → (x < y) ⊎ (x ≡ y)
      leq x y l = grind arith

      by : ((s.server n).incarnation < (t.server n).incarnation) ⊎ ((s.server n).incarnation ≡ (t.server n).incarnation) →
          Reached (t.server n) i b
      by (inl up) = inl (omega (arith, up, e))
      by (inr same) = let l = (later.server n).active same in inr (e ∙ same, omega (arith, less, l))

  module _ (b : ℕ) (named : (s.binding b).named ≡ true) (below : b < s.naming.bound) where
    server_is : (t.binding b).server ≡ (s.binding b).server
    server_is = (later.made b below).0

    incarnation_is : (t.binding b).incarnation ≡ (s.binding b).incarnation
    incarnation_is = (later.named b named).1

    pub same_server : (t.server (t.binding b).server) ≡ (t.server (s.binding b).server)
    same_server = ap t.server server_is

    pub reached_lasts : Reached (server_of s b) (s.binding b).incarnation b → Reached (server_of t b) (t.binding b).incarnation b
    reached_lasts h = subst (λ (i : ℕ). Reached (server_of t b) i b) (sym incarnation_is) (subst (λ (v : Server).
        Reached v (s.binding b).incarnation b) (sym same_server) (reached_on (s.binding b).server (s.binding b).incarnation b h))

    pub past_lasts : IsPast s b → IsPast t b
    past_lasts h = let e = incarnation_is in subst (λ (v : Server). ((t.binding b).incarnation < v.incarnation)
        ⊎ (((t.binding b).incarnation ≡ v.incarnation) × (b < v.active))) (sym same_server) (by h)
      where
        leq : (x y : ℕ) → x ≤ y → (x < y) ⊎ (x ≡ y)
        leq x y l = grind arith

        n : ℕ
        n = (s.binding b).server

        by : IsPast s b → ((t.binding b).incarnation < (t.server n).incarnation)
            ⊎ (((t.binding b).incarnation ≡ (t.server n).incarnation) × (b < (t.server n).active))
        by (inl less) = let l = (later.server n).rises in let e = incarnation_is in inl (omega (arith, less, l, e))
        by (inr (is, less)) = elim (leq (s.server n).incarnation (t.server n).incarnation (later.server n).rises) [
          | inl up ↦ (let e = incarnation_is in inl (omega (arith, up, is, e)))
          | inr eq ↦ (let l = (later.server n).active eq in inr (incarnation_is ∙ is ∙ eq, omega (arith, less, l)))
        ]

    -- a copy that is up was up, in the same incarnation
    pub up_back : Reached (server_of s b) (s.binding b).incarnation b → IsUp t b →
        IsUp s b × ((server_of s b).incarnation ≡ (t.server (s.binding b).server).incarnation)
    up_back h up = by h
      where
        n : ℕ
        n = (s.binding b).server

        inc : (t.server n).incarnation ≡ (s.binding b).incarnation
        inc = subst (λ (v : Server). v.incarnation ≡ (s.binding b).incarnation) same_server (up.0 ∙ incarnation_is)

        act : (t.server n).active ≡ b
        act = subst (λ (v : Server). v.active ≡ b) same_server up.1

        by : Reached (server_of s b) (s.binding b).incarnation b → IsUp s b × ((s.server n).incarnation ≡ (t.server n).incarnation)
        by (inl less) = let l = (later.server n).rises in let e = inc in absurd (omega (arith, less, l, e))
        by (inr (is, less)) = let a = (later.server n).active (sym is ∙ sym inc) in let e = act in
            ((sym is, omega (arith, a, less, e)), sym is ∙ sym inc)

    pub covers_on : (a : Act) (k : ℕ) → 1 ≤ k → Alive t a →
        ((s.action (top a)).stage ≡ 3 → IsUp s b → (server_of s b).voted (top a) ≡ true) → Covers s a b k → Covers t a b k
    covers_on a k one alive voted (gone h) = gone (past_lasts h)
    covers_on a k one alive voted (over h) = let l = later.stage (Root (root a)) in over (omega (arith, h, l))
    covers_on a k one alive voted (dropped u o h) = let l = later.stage u in dropped u o (omega (arith, h, l))
    covers_on a k one alive voted (stands h up o row merged) = later.stays a b k h named alive one voted up o row merged

  pub mode_positive : (w : Bool) → 1 ≤ mode w
  mode_positive true = omega arith
  mode_positive false = omega arith

  -- Tops.

  pub sure_on : (m : Act) → is_top m ≡ true → (t.action m).stage ≤ 3 → t.kept (root m) ≡ s.kept (root m) → s.kept (root m) < s.naming.bound
      → ((s.action m).stage ≡ 3 → s.naming.first ≤ s.kept (root m) → s.naming.confirmed m ≡ true) → Sure s m → Sure t m
  sure_on m is alive same below confirmed h =
      record { named = subst (λ (b : ℕ). (t.binding b).named ≡ true) (sym same) (later.named (s.kept (root m)) h.named).0; here = here }
    where
      here : t.naming.first ≤ t.kept (root m) → GoesOn t (root m) → (t.naming.recorded ≡ t.kept (root m)) × Anchor t 1 m
      here present goes = by later.first
        where
          by : (t.naming.first ≡ s.naming.first) ⊎ ((s.naming.bound ≤ t.naming.first) × (s.naming.first < t.naming.first)) →
              (t.naming.recorded ≡ t.kept (root m)) × Anchor t 1 m
          by (inl e) =
              let old : s.naming.first ≤ s.kept (root m) = omega (arith, e, same, present) in
              let p = h.here old (goes_back (root m) goes) in (
                later.same_recorded m is e p.0 p.1 ∙ p.0 ∙ sym same,
                later.anchored 1 m is (omega arith) (omega arith) e alive goes (λ three. confirmed three old) p.1,
              )
          by (inr crash) = let l = crash.0 in absurd (omega (arith, l, present, same, below))

  pub entered_on : (m : Act) (g : ℕ) → is_top m ≡ true → g ≤ s.naming.first → (t.action m).stage ≤ 3 →
      ((s.action m).stage ≡ 3 → g ≡ s.naming.first → s.naming.confirmed m ≡ true) → Entered s m g → Entered t m g
  entered_on m g is low alive confirmed h present goes = by later.first
    where
      by : (t.naming.first ≡ s.naming.first) ⊎ ((s.naming.bound ≤ t.naming.first) × (s.naming.first < t.naming.first)) → Anchor t 2 m
      by (inl e) = later.anchored 2 m is (omega arith) (omega arith) e alive goes (λ three. confirmed three (present ∙ e))
          (h (present ∙ e) (goes_back (root m) goes))
      by (inr crash) = let l = crash.1 in absurd (omega (arith, l, present, low))

  pub good_back : (c : Call) → In c s.calls → Alive t c.act → (m : Act) → is_top m ≡ true → root m ≡ root c.act → Member s m c.act →
      NamedHolds s (s.kept (root m)) → (s.binding (s.kept (root m))).named ≡ true → Good t m → Good s m
  good_back c i alive m is unit member n named good = record {
    alive = (let l = later.stage m in let k = good.alive in omega (arith, l, k));
    going = going good.going;
    up = up good.up;
    present = present good.present;
  }
    where
      same : t.kept (root m) ≡ s.kept (root m)
      same = ap t.kept unit ∙ later.keeps c i alive ∙ ap s.kept (sym unit)

      going : GoesOn t (root m) ⊎ (1 ≤ (t.action m).stage) → GoesOn s (root m) ⊎ (1 ≤ (s.action m).stage)
      going (inl g) = inl (goes_back (root m) g)
      going (inr one) = elim (later.going m is one good.alive) [ inl l ↦ inr l | inr g ↦ inl g ]

      up : IsUp t (t.kept (root m)) ⊎ (t.yes m ≡ t.kept (root m)) → IsUp s (s.kept (root m)) ⊎ (s.yes m ≡ s.kept (root m))
      up (inl u) = inl (up_back (s.kept (root m)) named n.below n.reached (subst (λ (b : ℕ). IsUp t b) same u)).0
      up (inr y) = elim (later.yes m (s.kept (root m)) named (y ∙ same)) [ inl e ↦ inr e | inr u ↦ inl u ]

      present : (t.naming.first ≤ t.kept (root m)) ⊎ (t.confirmed m ≡ true) → (s.naming.first ≤ s.kept (root m)) ⊎ (s.confirmed m ≡ true)
      present (inl p) = let l = first_rises in let e = same in inl (omega (arith, p, l, e))
      present (inr c') = elim (later.confirms c i alive m is member c') [ inl e ↦ inr e | inr p ↦ inl p ]
