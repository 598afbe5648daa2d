-- Every act keeps what holds at every moment, and so does every list of acts.
use Rattle.arj_law_disk.proofs.Terms
use Terms.{◌≡◌, ◌⊎◌, ℕ, List, [], ◌∷◌, Bool, true, false, Some, sym, ◌∙◌, ap, subst, inl, inr, ⊎_elim, Core, Allowed, IsPresent, MayDo}
use Terms.{Runs, end_of, Acked, IsOver, Named, IsHeld, IsWide, AnswerMeans, Names, Office, Answer, Bound, Loaded, acted, State, naming}
use Terms.{decided, undecided, is_open, is_gone}
use Terms.Effects
use Rattle.arj_law_disk.proofs.machine
use machine.{Committing.decide_named, Committing.commit_named, Ends.end_top_named, Ends.end_serial_named, Kin.open_untold}
use machine.{Opening.begun_named}
use machine.Base.{never, falls_to, open_made, put_same}
use machine.Confirmed.{agreed_named, passed_named, entered_named}
use machine.Locks.{read_named, write_named, exclude_named, lower_named, unbind_named}
use machine.Plain.{took_named, sealed_named, halted_named, ended_bare_named, intended_named, removed_named, kept_named, moved_named}
use machine.Plain.{finished_named, dropped_named, sent_named, entry_moved_named, entry_finished_named, entry_dropped_named}
use machine.Plain.{entry_forgotten_named}
use machine.Restarts.{restart_named, hear_named, keep_list_named, answer_load_named}
use machine.Retaining.{had_after, had_cases, had_rises, had_root, had_top, kept_cases}
use Rattle.arj_law_disk.specs.machine.{Guards.May, Names.Act, Names.retained}
use Rattle.arj_law_disk.specs.machine.Names

-- a committed top's grants and list are retained by its root, before it is told of
retain_named : (A : Office) (t : ℕ) → (decided A.world.disk t ≡ true) ⊎ (A.world.disk.bare t ≡ true) → A.names.told t ≡ false → Named A →
    Named (record { world = A.world; names = retained A.world.disk t A.names })
retain_named A t done untold c = record {
  whole = c.whole;
  roots = c.roots;
  rows = record {
    apart = c.rows.apart;
    alone = c.rows.alone;
    dead = c.rows.dead;
    given = λ a g. let y = c.rows.given a g in
        (y.0, y.1, falls_to (had a N.inc) (λ h. never (had_top S t N.had c.roots a N.inc (c.roots.tops a y.1) h) y.2));
    guard = c.rows.guard;
    adds = c.rows.adds;
    out = c.rows.out;
    since = c.rows.since;
    asked = c.rows.asked;
  };
  grants = record {
    past = λ a i h. ⊎_elim (λ (o : N.had a i ≡ true). c.grants.past a i o)
        (λ (o : (a ≡ S.root t) × (N.had t i ≡ true)). c.grants.past t i o.1) (had_cases S t N.had a i h);
    row = λ a s h u. c.grants.row a s (had_top S t N.had c.roots a N.inc s h) u;
    root = λ a s h u. ⊎_elim
        (λ (y : N.had a N.inc ≡ true). held a (c.grants.root a s y u))
        (λ (y : (a ≡ S.root t) × (N.had t N.inc ≡ true)). inr (inr (t, sym y.0, done, untold, more t N.inc y.1)))
        (had_cases S t N.had a N.inc h);
    conf = λ a y h. c.grants.conf a y (had_top S t N.had c.roots a N.inc (taken_top a y) h);
    part = λ a y p. let z = c.grants.part a y p in (z.0, either a z.0 z.1, z.2);
    yes = c.grants.yes;
    listed = λ a d h u. c.grants.listed a d (had_top S t N.had c.roots a N.inc (taken_top a (core.coordinators.decided_taken a d)) h) u;
    acked = λ a m. ⊎_elim
        (λ (h : N.told a ≡ true). inl h)
        (λ (h : N.had a N.inc ≡ false). inr (falls_to (had a N.inc) (λ y. never
        (had_top S t N.had c.roots a N.inc (taken_top a (core.coordinators.decided_taken a (c.whole.mail (Acked a naming) m).0)) y) h)))
        (c.grants.acked a m);
    told = c.grants.told;
  };
  lists = record {
    had = λ h k e. ⊎_elim
        (λ (y : N.kept h ≡ Some k). more h k.since (c.lists.had h k y))
        (λ (y : (h ≡ S.root t) × (N.kept t ≡ Some k)). ap (λ n. had n k.since) y.0 ∙ had_root S t N.had k.since (c.lists.had t k y.1))
        (kept_cases S t N.kept h k e);
    kept = λ h k e p u. ⊎_elim
        (λ (y : N.kept h ≡ Some k). c.lists.kept h k y (present h p) u)
        (λ (y : (h ≡ S.root t) × (N.kept t ≡ Some k)).
        let f : S.root h ≡ S.root t = ap S.root y.0 ∙ c.roots.idem t in
        subst (λ n. IsOver S n ⊎ IsWide S n k.list) (sym f) (c.lists.kept t k y.1 (present_t h f p) (untold, ap N.told (sym f) ∙ u.1)))
        (kept_cases S t N.kept h k e);
    plan = λ a u w. let y = c.lists.plan a u w in (y.0, either a y.0 y.1, λ p. y.2 (present a p));
    light = λ a s l u p. c.lists.light a s l u (present a p);
  };
  answers = λ a m. answer a (c.answers a m);
  plans = record {
    writer = c.plans.writer;
    asked = λ a s b j. let y = c.plans.asked a s b j in (y.0, more a y.0 y.1, y.2);
    loaded = λ a s u j p. c.plans.loaded a s u j (present a p);
  };
}
  where
    S : State
    S = A.world.disk

    N : Names
    N = A.names

    M : Names
    M = retained S t N

    core : Core S
    core = c.whole.core

    had : ℕ → ℕ → Bool
    had = had_after S t N.had

    more : (a i : ℕ) → N.had a i ≡ true → had a i ≡ true
    more a i h = had_rises S t N.had a i h

    taken_top : (a : ℕ) → (S.conf a ≡ true) ⊎ (S.light a ≡ true) → S.serial a ≡ false
    taken_top a (inl h) = c.roots.tops a (core.fresh.conf a h)
    taken_top a (inr h) = c.roots.tops a (core.fresh.light a h)

    either : (a i : ℕ) → (N.had a i ≡ true) ⊎ (N.had (S.root a) i ≡ true) → (had a i ≡ true) ⊎ (had (S.root a) i ≡ true)
    either a i (inl h) = inl (more a i h)
    either a i (inr h) = inr (more (S.root a) i h)

    present : (a : ℕ) → IsPresent S M a → IsPresent S N a
    present a p i h = p i (either a i h)

    present_t : (h : ℕ) → S.root h ≡ S.root t → IsPresent S M h → IsPresent S N t
    present_t h f p i (inl y) = p i (inr (ap (λ n. had n i) f ∙ had_root S t N.had i y))
    present_t h f p i (inr y) = p i (inr (ap (λ n. had n i) f ∙ more (S.root t) i y))

    held : (r : ℕ) → IsHeld S N r → IsHeld S M r
    held r (inl o) = inl o
    held r (inr (inl y)) = inr (inl y)
    held r (inr (inr (y, e, d, u, h))) = inr (inr (y, e, d, u, more y N.inc h))

    answer : (a : Answer) → AnswerMeans S N a → AnswerMeans S M a
    answer (Bound a i b l) y = y
    answer (Loaded a i g) y = y

bare_untold : (A : Office) (t : ℕ) → Allowed A.world (Effects.EndBare t) → Named A → A.names.told t ≡ false
bare_untold A t x c = (open_untold A.world.disk A.names c.roots (λ a h. let y = c.grants.told a h in (y.1, y.2)) t open_t).0
  where
    S : State
    S = A.world.disk

    open_t : undecided S t ≡ true
    open_t = open_made (decided S t) (S.stage t) (S.intent t) (falls_to (decided S t) (λ d. let n : ◌≡◌ {A = Bool} false true = sym
        (ap is_gone x.sealed) ∙ c.whole.core.coordinators.decided_closed t d in cc)) (inl (ap is_open x.sealed))

pub do_named : (A : Office) (e : Effects.Effect) → MayDo A e → Named A → Named (acted A (Names.Do e))
do_named A (Effects.Begin t p) x c = begun_named A t p x c
do_named A (Effects.Take t s) x c = took_named A t s x c
do_named A (Effects.Seal t) x c = sealed_named A t x c
do_named A (Effects.Intend t nodes) x c = intended_named A t nodes x c
do_named A (Effects.Decide t) x c = decide_named A t x.0 x.1 c
do_named A (Effects.Remove t nodes) x c = removed_named A t nodes x c
do_named A (Effects.EndBare t) x c = ended_bare_named A t x c
do_named A (Effects.Halt t) x c = halted_named A t c
do_named A (Effects.Keep t s) x c = kept_named A t s x c
do_named A (Effects.Move s h) x c = moved_named A s h x c
do_named A (Effects.Finish s h) x c = finished_named A s h x c
do_named A (Effects.Drop s h) x c = dropped_named A s h x c
do_named A (Effects.Agree t) x c = agreed_named A t x c
do_named A (Effects.Pass t) x c = passed_named A t x c
do_named A (Effects.Enter t) x c = entered_named A t x c
do_named A (Effects.MoveEntry h) x c = entry_moved_named A h x c
do_named A (Effects.FinishEntry h) x c = entry_finished_named A h x c
do_named A (Effects.DropEntry h) x c = entry_dropped_named A h x c
do_named A (Effects.Forget r h) x c = entry_forgotten_named A r h x c
do_named A (Effects.Send m) x c = sent_named A m x.0 x.1 c

pub act_named : (A : Office) (a : Act) → May A a → Named A → Named (acted A a)
act_named A (Names.Do e) x c = do_named A e x c
act_named A (Names.Commit t) x c = commit_named A t x c
act_named A (Names.CommitBare t) x c = retain_named (acted A (Names.Do (Effects.EndBare t))) t (inr (put_same t true A.world.disk.bare))
    (bare_untold A t x c) (ended_bare_named A t x c)
act_named A (Names.Read t) x c = read_named A t x.0 x.1 c
act_named A (Names.Write t b) x c = write_named A t b x c
act_named A (Names.Exclude t) x c = exclude_named A t x c
act_named A (Names.Lower t) x c = lower_named A t x c
act_named A Names.Unbind x c = unbind_named A c
act_named A (Names.EndTop t commits) x c = end_top_named A t commits x c
act_named A (Names.EndSerial r) x c = end_serial_named A r x c
act_named A (Names.Restart yes_again) x c = restart_named A yes_again x c
act_named A (Names.Hear t i b l) x c = hear_named A t i b l x c
act_named A (Names.KeepList h t i l) x c = keep_list_named A h t i l x c
act_named A (Names.AnswerLoad t i s l g) x c = answer_load_named A t i s l g x c

pub runs_keep : (A : Office) (acts : List Act) → Runs A acts → Named A → Named (end_of A acts)
runs_keep A [] r c = c
runs_keep A (a ∷ acts) r c = runs_keep (acted A a) acts r.1 (act_named A a r.0 c)
