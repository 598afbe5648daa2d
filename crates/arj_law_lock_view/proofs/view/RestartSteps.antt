-- What naming does with the locks of a Confirm, and with its own restart, goes in the machine.
use Rattle.arj_law_parts.proofs.Words
use Words.{◌≡◌, ◌≤◌, ◌<◌, ◌⊎◌, ◌∙◌, ◌+◌, ◌*◌, ℕ, true, false, Option, Some, None, refl, sym, subst, ⊎_elim, arith, Binding, entry, tops_of}
use Words.{top_path, unnamed}
use Words.mode
use Rattle.arj_law_lock_view.proofs.Terms
use Terms.{Act, next, stay, step, State, CrashNaming, run_keeps, start_holds, SeesNothing, Goes, NobodyConfirmed, OnlyNaming, SeesNamed}
use Rattle.arj_law_lock_view.proofs.view.{RowSteps.asked_seen, RunSteps.goes_to}
use Rattle.arj_law_lock_view.specs.view.Ends.{ExcludesAreSeen, FallsAreSeen, RestartsAreSeen}

pub excludes_are_seen : ExcludesAreSeen
excludes_are_seen act x n o p S sees = record {
  rows = asked_seen act (entry x) (top_path p) (tops_of p) mode.Exclude o.rows S.naming.rows sees.rows;
  bound = sees.bound;
  first = sees.first;
  recorded = sees.recorded;
  unrecorded = sees.unrecorded;
  known = sees.known;
  live = sees.live;
  made = sees.made;
  asked = sees.asked;
  making = sees.making;
}

-- the machine's naming stops, and starts with these bindings
falls : (g : ℕ) (S : State) → S.naming.bound ≤ g → S.naming.first < g →
    Goes S (λ T. (T ≡ next (CrashNaming g) S) × OnlyNaming S T × NobodyConfirmed S T)
falls g S bound first = record {
  state = next (CrashNaming g) S;
  run = step (CrashNaming g) (bound, first) stay;
  holds = (refl, record { rest = refl; bindings = λ b l. refl; sent = λ m i. i }, refl);
}

pub falls_are_seen : FallsAreSeen
falls_are_seen act owner x n o S few reached good sees = goes_to
    (falls ((n.inc + 1) * 4294967296) S (let b = sees.bound in omega (arith, b, few)) (let f = sees.first in omega (arith, f)))
    (λ T g. (
      subst (SeesNothing n.inc) (sym g.0) (record {
        bound = omega arith;
        first = omega arith;
        recorded = by o.recorded refl;
        empty = λ a. (refl, refl);
        nobody = λ a. (refl, refl);
        made = below;
      }),
      g.1,
      g.2,
    ))
  where
    -- every binding so far is below those of the next incarnation
    below : (m : Act) → S.naming.made m < (n.inc + 1) * 4294967296
    below m = let made = (run_keeps reached.1 (start_holds reached.0)).naming.made_below m in let bound = sees.bound in
        omega (arith, made, bound, few)

    by : (v : Option Binding) → o.recorded ≡ v → S.naming.recorded < (n.inc + 1) * 4294967296
    by None none = let f = sees.first in let r = sees.unrecorded none in omega (arith, f, r)
    by (Some b) some = let c = good.recorded b some in let i = c.0 in let j = c.1 in let r = sees.recorded b some in
        omega (arith, i, j, r, few)

pub restarts_are_seen : RestartsAreSeen
restarts_are_seen act x inc n rows S up none old = ⊎_elim
    (λ less. goes_to (falls (n.inc * 4294967296) S (let b = old.bound in omega (arith, b, up)) less) (λ T g. (
      subst (SeesNamed act x n (unnamed rows)) (sym g.0)
          (seen (next (CrashNaming (n.inc * 4294967296)) S) (λ a. refl) (omega arith) refl (let r = old.recorded in
          omega (arith, r, up)) (λ a. refl) (λ m. let z = old.made m in let f = old.first in omega (arith, z, f, up))),
      g.1,
      g.2,
      (λ a. subst (λ (z : State). (z.naming.told a ≡ false) × (z.naming.confirmed a ≡ false)) (sym g.0) (refl, refl)),
    )))
    (λ same. record {
      state = S;
      run = stay;
      holds = (
        seen S (λ a. (old.empty a).0) (let b = old.bound in omega (arith, b, up)) same (let r = old.recorded in
            omega (arith, r, up)) (λ a. (old.empty a).1) (λ m. old.made m),
        record { rest = refl; bindings = λ b l. refl; sent = λ m i. i },
        refl,
        old.nobody,
      );
    })
    (order S.naming.first (n.inc * 4294967296) (let f = old.first in omega (arith, f, up)))
  where
    order : (m k : ℕ) → m ≤ k → (m < k) ⊎ (m ≡ k)
    order m k le = grind (arith, le)

    seen : (T : State) → ((a : Act) → T.naming.rows a ≡ 0) → T.naming.bound ≤ n.inc * 4294967296 → T.naming.first ≡ n.inc * 4294967296 →
        T.naming.recorded < n.inc * 4294967296 → ((a : Act) → T.naming.asked a ≡ false) → ((m : Act) → T.naming.made m < T.naming.first) →
        SeesNamed act x n (unnamed rows) T
    seen T empty bound first recorded unasked unmade = record {
      rows = λ a. (let e = empty a in omega (arith, e));
      bound = omega (arith, none, bound);
      first = first;
      recorded = λ b is. absurd (cc is);
      unrecorded = λ is. omega (arith, first, recorded);
      known = λ b is. absurd (cc is);
      live = λ l is. absurd (cc is);
      made = λ t m is. absurd (cc is);
      asked = λ t is. absurd (let no_way : true ≡ false = sym is ∙ unasked (act t) in cc no_way);
      making = λ t top since free. absurd (let z = unmade (act t) in omega (arith, z, since));
    }
