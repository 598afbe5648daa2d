-- Effects that touch no decision, no entry and no confirmation: the naming node's half goes on to hold.
use Rattle.arj_law_disk.proofs.Terms
use Terms.{◌≡◌, ℕ, List, Bool, true, false, Option, inl, inr, ⊎_elim, Some, Message, IsOver, Roots, Rows, IsHeld, Grants, IsWide}
use Terms.{AnswerMeans, Plans, Names, Answer, Bound, Loaded, State, Packed, Hold, Stage, naming, is_idle, is_gone, decided, undecided}
use Terms.{lists, listed_by, open_by}
use Rattle.arj_law_disk.proofs.machine.Base.{falls_to, never}
use Rattle.arj_law_disk.specs.machine.Named.{Lists}

-- the object with other stages, records, answers and stores
abbrev pub calm : State → (ℕ → Stage) → (ℕ → Option (List ℕ)) → (ℕ → Bool) → (ℕ → ℕ → Bool) → (ℕ → Option Packed) → (ℕ → Option Hold) →
    (ℕ → ℕ → Bool) → State
calm S g i b o held pend went = record S { stage = g; intent = i; bare = b; got = o; held = held; pend = pend; went = went }

module _ (S : State) (N : Names) (sent : List Message) (g : ℕ → Stage) (i : ℕ → Option (List ℕ)) (b : ℕ → Bool) (o : ℕ → ℕ →
    Bool) (held : ℕ → Option Packed) (pend : ℕ → Option Hold) (went : ℕ → ℕ → Bool)
    (falls : (a : ℕ) → open_by (decided S a) (g a) (i a) ≡ true → undecided S a ≡ true)
    (gone : (a : ℕ) → is_gone (S.stage a) ≡ true → is_gone (g a) ≡ true)
    (idle : (a : ℕ) → is_idle (g a) ≡ true → is_idle (S.stage a) ≡ true)
    (bare : (a : ℕ) → S.bare a ≡ true → b a ≡ true)
    (listed : (a : ℕ) → decided S a ≡ true → N.had a N.inc ≡ true → N.told a ≡ false → lists S a naming ≡ true →
    listed_by (i a) naming ≡ true)
  where
    abbrev pub V : State
    V = calm S g i b o held pend went

    closed : (a : ℕ) → undecided S a ≡ false → undecided V a ≡ false
    closed a n = falls_to (undecided V a) (λ u. never (falls a u) n)

    over : (r : ℕ) → IsOver S r → IsOver V r
    over r x = (gone r x.0, λ z e. closed z (x.1 z e))

    pub calm_roots : Roots S → Roots V
    calm_roots c =
        record { serial = c.serial; plain = c.plain; idem = c.idem; tops = c.tops; one = λ t z u v. c.one t z (falls t u) (falls z v) }

    pub calm_rows : ((h : Hold) (s : ℕ) → S.entry_pend ≡ Some h → o h.top s ≡ true → S.got h.top s ≡ true) → Rows S N → Rows V N
    calm_rows gots c = record {
      apart = c.apart;
      alone = c.alone;
      dead = c.dead;
      given = c.given;
      guard = c.guard;
      adds = c.adds;
      out = λ h s p d j g. c.out h s p d j (gots h s p g);
      since = c.since;
      asked = c.asked;
    }

    is_held : (r : ℕ) → IsHeld S N r → IsHeld V N r
    is_held r (inl x) = inl (over r x)
    is_held r (inr (inl x)) = inr (inl x)
    is_held r (inr (inr (y, e, inl d, u, h))) = inr (inr (y, e, inl d, u, h))
    is_held r (inr (inr (y, e, inr d, u, h))) = inr (inr (y, e, inr (bare y d), u, h))

    pub calm_grants : Grants S N sent → Grants V N sent
    calm_grants c = record {
      past = c.past;
      row = c.row;
      root = λ r s h u. is_held r (c.root r s h u);
      conf = c.conf;
      part = c.part;
      yes = λ t h. let x = c.yes t h in (x.0, λ u. x.1 (falls t u));
      listed = λ t d h u. listed t d h u (c.listed t d h u);
      acked = c.acked;
      told = λ t h. let x = c.told t h in (gone t x.0, closed t x.1, λ s. over t (x.2 s));
    }

    pub calm_lists : Lists S N → Lists V N
    calm_lists c = record {
      had = c.had;
      kept = λ h k e p u.
          ⊎_elim (λ (x : IsOver S (S.root h)). inl (over (S.root h) x)) (λ (x : IsWide S (S.root h) k.list). inr x) (c.kept h k e p u);
      plan = λ t u. c.plan t (falls t u);
      light = λ t s l u. c.light t s l (falls t u);
    }

    pub calm_answer : (a : Answer) → AnswerMeans S N a → AnswerMeans V N a
    calm_answer (Bound t k x l) m = (m.0, m.1, λ q. m.2 (idle t q))
    calm_answer (Loaded t k x) m = (m.0, m.1, m.2, λ q e u. let y = m.3 (idle t q) e u in (y.0, (y.1.0, λ z c v. y.1.1 z c (falls z v))))

    pub calm_plans : Plans S N → Plans V N
    calm_plans c = record {
      writer = c.writer;
      asked = c.asked;
      loaded = λ t s u j p. let y = c.loaded t s (falls t u) j p in (y.0, λ z x v. y.1 z x (falls z v));
    }
