-- Effects of stores and coordinators, and the end of entries, with the naming node's half.
use Rattle.arj_law_disk.proofs.Terms
use Terms.{◌≡◌, ◌⊎◌, ℕ, List, Bool, true, false, Option, Some, None, refl, sym, ◌∙◌, ap, subst, inl, inr, ⊎_elim, Whole, Allowed, changed}
use Terms.{MaySend, IsToldFirst, Message, Acked, ToldCommit, ToldAbort, ToldSerial, IsOver, Named, IsLeaving, IsWide, AnswerMeans, Office}
use Terms.{Answer, Bound, Loaded, acted, Do, State, Packed, Hold, Stage, Confirming, Gone, naming, is_idle, is_open, is_gone, open_by}
use Terms.{decided, undecided, lists, listed_by, Listed, hold, is_sealed, has, In, put, put2}
use Terms.Effects
use Rattle.arj_law_disk.proofs.machine
use machine.{Entries.pending_last, Keeps.effect_keeps, Keeps.removed_done, Mail.stage_falls}
use machine.Base.{bool_cases, put_cases, put_rises, never, some_is, open_done, open_made, put2_true}
use machine.Calm.{calm, calm_roots, calm_rows, calm_grants, calm_lists, calm_answer, calm_plans}
use machine.Stages.{Ages, ages_gone, ages_seal}

same_ages : (f : ℕ → Stage) → Ages f f
same_ages f = record { sealed = λ a h. h; gone = λ a h. h; idle = λ a h. h; opens = λ a h. h }

pub idle_old : (f g : ℕ → Stage) → Ages f g → (a : ℕ) → is_idle (g a) ≡ true → is_idle (f a) ≡ true
idle_old f g ages a h =
    ⊎_elim (λ (e : is_idle (f a) ≡ true). e) (λ (e : is_idle (f a) ≡ false). absurd (never h (ages.idle a e))) (bool_cases (is_idle (f a)))

calm_named : (A : Office) (g : ℕ → Stage) (i : ℕ → Option (List ℕ)) (b : ℕ → Bool) (o : ℕ → ℕ → Bool) (held : ℕ → Option Packed) (pend : ℕ →
    Option Hold) (went : ℕ → ℕ → Bool)
    → Ages A.world.disk.stage g → ((a : ℕ) → open_by (decided A.world.disk a) (g a) (i a) ≡ true → undecided A.world.disk a ≡ true) →
    ((a : ℕ) → A.world.disk.bare a ≡ true → b a ≡ true)
    → ((a : ℕ) → decided A.world.disk a ≡ true → A.names.had a A.names.inc ≡ true → A.names.told a ≡ false →
    lists A.world.disk a naming ≡ true → listed_by (i a) naming ≡ true)
    → ((h : Hold) (s : ℕ) → A.world.disk.entry_pend ≡ Some h → o h.top s ≡ true → A.world.disk.got h.top s ≡ true)
    → Whole (record { disk = calm A.world.disk g i b o held pend went; sent = A.world.sent }) → Named A →
    Named (record { world = record { disk = calm A.world.disk g i b o held pend went; sent = A.world.sent }; names = A.names })
calm_named A g i b o held pend went ages falls bare listed gots whole c = record {
  whole = whole;
  roots = calm_roots A.world.disk A.names A.world.sent g i b o held pend went falls ages.gone (idle_old A.world.disk.stage g ages) bare
      listed c.roots;
  rows = calm_rows A.world.disk A.names A.world.sent g i b o held pend went falls ages.gone (idle_old A.world.disk.stage g ages) bare listed
      gots c.rows;
  grants = calm_grants A.world.disk A.names A.world.sent g i b o held pend went falls ages.gone (idle_old A.world.disk.stage g ages) bare
      listed c.grants;
  lists = calm_lists A.world.disk A.names A.world.sent g i b o held pend went falls ages.gone (idle_old A.world.disk.stage g ages) bare
      listed c.lists;
  answers = λ a m. calm_answer A.world.disk A.names A.world.sent g i b o held pend went falls ages.gone (idle_old A.world.disk.stage g ages)
      bare listed a (c.answers a m);
  plans = calm_plans A.world.disk A.names A.world.sent g i b o held pend went falls ages.gone (idle_old A.world.disk.stage g ages) bare
      listed c.plans;
}

-- effects of stores: no stage, no record
stores_named : (A : Office) (held : ℕ → Option Packed) (pend : ℕ → Option Hold) (went : ℕ → ℕ → Bool) → Whole (record {
  disk = calm A.world.disk A.world.disk.stage A.world.disk.intent A.world.disk.bare A.world.disk.got held pend went;
  sent = A.world.sent;
}) → Named A
    → Named (record {
      world = record {
        disk = calm A.world.disk A.world.disk.stage A.world.disk.intent A.world.disk.bare A.world.disk.got held pend went;
        sent = A.world.sent;
      };
      names = A.names;
    })
stores_named A held pend went whole c = calm_named A A.world.disk.stage A.world.disk.intent A.world.disk.bare A.world.disk.got held pend
    went (same_ages A.world.disk.stage) (λ a u. u) (λ a h. h) (λ a d h u l. l) (λ h s p g. g) whole c

pub took_named : (A : Office) (t s : ℕ) → Allowed A.world (Effects.Take t s) → Named A → Named (acted A (Do (Effects.Take t s)))
took_named A t s x c = calm_named A A.world.disk.stage A.world.disk.intent A.world.disk.bare (put2 t s true A.world.disk.got)
    A.world.disk.held A.world.disk.pend A.world.disk.went (same_ages A.world.disk.stage) (λ a u. u) (λ a h. h) (λ a d h u l. l) gots
    (effect_keeps A.world (Effects.Take t s) x c.whole) c
  where
    -- who has an entry prepared has ended its prepare step
    gots : (h : Hold) (m : ℕ) → A.world.disk.entry_pend ≡ Some h → put2 t s true A.world.disk.got h.top m ≡ true →
        A.world.disk.got h.top m ≡ true
    gots h m p g = ⊎_elim
        (λ (e : (h.top ≡ t) × (m ≡ s)). let n : false ≡ true = sym (ap is_sealed (ap A.world.disk.stage e.0 ∙ x.0))
        ∙ c.whole.core.pending.sealed h p in cc)
        (λ (o : A.world.disk.got h.top m ≡ true). o)
        (put2_true t s A.world.disk.got h.top m g)

pub sealed_named : (A : Office) (t : ℕ) → Allowed A.world (Effects.Seal t) → Named A → Named (acted A (Do (Effects.Seal t)))
sealed_named A t x c = calm_named A (put t Confirming A.world.disk.stage) A.world.disk.intent A.world.disk.bare A.world.disk.got
    A.world.disk.held A.world.disk.pend A.world.disk.went
    ages (λ a u. stage_falls A.world.disk (put t Confirming A.world.disk.stage) ages a u) (λ a h. h) (λ a d h u l. l) (λ h s p g. g)
    (effect_keeps A.world (Effects.Seal t) x c.whole) c
  where
    ages : Ages A.world.disk.stage (put t Confirming A.world.disk.stage)
    ages = ages_seal t A.world.disk.stage x

pub halted_named : (A : Office) (t : ℕ) → Named A → Named (acted A (Do (Effects.Halt t)))
halted_named A t c = calm_named A (put t Gone A.world.disk.stage) A.world.disk.intent A.world.disk.bare A.world.disk.got A.world.disk.held
    A.world.disk.pend A.world.disk.went
    (ages_gone t A.world.disk.stage) (λ a u. stage_falls A.world.disk (put t Gone A.world.disk.stage) (ages_gone t A.world.disk.stage) a u)
    (λ a h. h) (λ a d h u l. l) (λ h s p g. g) (effect_keeps A.world (Effects.Halt t) tt c.whole) c

pub ended_bare_named : (A : Office) (t : ℕ) → Allowed A.world (Effects.EndBare t) → Named A → Named (acted A (Do (Effects.EndBare t)))
ended_bare_named A t x c = calm_named A (put t Gone A.world.disk.stage) A.world.disk.intent (put t true A.world.disk.bare) A.world.disk.got
    A.world.disk.held A.world.disk.pend A.world.disk.went
    (ages_gone t A.world.disk.stage) (λ a u. stage_falls A.world.disk (put t Gone A.world.disk.stage) (ages_gone t A.world.disk.stage) a u)
    (λ a h. put_rises t A.world.disk.bare a h) (λ a d h u l. l) (λ h s p g. g) (effect_keeps A.world (Effects.EndBare t) x c.whole) c

pub intended_named : (A : Office) (t : ℕ) (nodes : List ℕ) → Allowed A.world (Effects.Intend t nodes) → Named A →
    Named (acted A (Do (Effects.Intend t nodes)))
intended_named A t nodes x c = calm_named A A.world.disk.stage (put t (Some nodes) A.world.disk.intent) A.world.disk.bare A.world.disk.got
    A.world.disk.held A.world.disk.pend A.world.disk.went (same_ages A.world.disk.stage)
    (λ a u. put_cases (λ o. open_by (decided S a) (S.stage a) o ≡ true →
    undecided S a ≡ true) t (Some nodes) S.intent a (λ e v. open_made (decided S a) (S.stage a) (S.intent a)
    (open_done (decided S a) (S.stage a) (Some nodes) v) (inl (ap is_open (ap S.stage e ∙ x.sealed)))) (λ e v. v) u)
    (λ a h. h)
    (λ a d h u l. put_cases (λ o. listed_by o naming ≡ true) t (Some nodes) S.intent a (λ e. let n : ◌≡◌ {A = Bool} false true = sym
    (ap is_gone (ap S.stage e ∙ x.sealed)) ∙ c.whole.core.coordinators.decided_closed a d in cc) (λ e. l))
    (λ h s p g. g)
    (effect_keeps A.world (Effects.Intend t nodes) x c.whole) c
  where
    S : State
    S = A.world.disk

pub removed_named : (A : Office) (t : ℕ) (nodes : List ℕ) → Allowed A.world (Effects.Remove t nodes) → Named A →
    Named (acted A (Do (Effects.Remove t nodes)))
removed_named A t nodes x c = calm_named A A.world.disk.stage (put t None A.world.disk.intent) A.world.disk.bare A.world.disk.got
    A.world.disk.held A.world.disk.pend A.world.disk.went (same_ages A.world.disk.stage)
    (λ a u. put_cases (λ o. open_by (decided S a) (S.stage a) o ≡ true → undecided S a ≡ true) t None S.intent a (λ e v. absurd
    (never (ap (decided S) e ∙ removed_done A.world t nodes x c.whole) (open_done (decided S a) (S.stage a) None v))) (λ e v. v) u)
    (λ a h. h)
    (λ a d h u l. put_cases (λ o. listed_by o naming ≡ true) t None S.intent a
    (λ e. absurd (known (ap (λ n. A.names.had n A.names.inc) (sym e) ∙ h) (ap A.names.told (sym e) ∙ u))) (λ e. l))
    (λ h s p g. g)
    (effect_keeps A.world (Effects.Remove t nodes) x c.whole) c
  where
    S : State
    S = A.world.disk

    known : A.names.had t A.names.inc ≡ true → A.names.told t ≡ false → ⊥
    known h u = ⊎_elim (λ (y : A.names.told t ≡ true). never y u) (λ (y : A.names.had t A.names.inc ≡ false). never h y)
        (c.grants.acked t (x.acked naming (c.whole.core.coordinators.record_names t nodes x.record_is)))

pub kept_named : (A : Office) (t s : ℕ) → Allowed A.world (Effects.Keep t s) → Named A → Named (acted A (Do (Effects.Keep t s)))
kept_named A t s x c = stores_named A A.world.disk.held (put s (Some (hold A.world.disk t)) A.world.disk.pend) A.world.disk.went
    (effect_keeps A.world (Effects.Keep t s) x c.whole) c

pub moved_named : (A : Office) (s : ℕ) (h : Hold) → Allowed A.world (Effects.Move s h) → Named A → Named (acted A (Do (Effects.Move s h)))
moved_named A s h x c = stores_named A (put s (Some h.new) A.world.disk.held) A.world.disk.pend A.world.disk.went
    (effect_keeps A.world (Effects.Move s h) x c.whole) c

pub finished_named : (A : Office) (s : ℕ) (h : Hold) → Allowed A.world (Effects.Finish s h) → Named A →
    Named (acted A (Do (Effects.Finish s h)))
finished_named A s h x c = stores_named A A.world.disk.held (put s None A.world.disk.pend) (put2 h.top s true A.world.disk.went)
    (effect_keeps A.world (Effects.Finish s h) x c.whole) c

pub dropped_named : (A : Office) (s : ℕ) (h : Hold) → Allowed A.world (Effects.Drop s h) → Named A → Named (acted A (Do (Effects.Drop s h)))
dropped_named A s h x c =
    stores_named A A.world.disk.held (put s None A.world.disk.pend) A.world.disk.went (effect_keeps A.world (Effects.Drop s h) x c.whole) c

pub sent_named : (A : Office) (m : Message) → MaySend A.world m → IsToldFirst A.names m → Named A → Named (acted A (Do (Effects.Send m)))
sent_named A m x first c = record {
  whole = effect_keeps A.world (Effects.Send m) x c.whole;
  roots = c.roots;
  rows = c.rows;
  grants = record {
    past = c.grants.past;
    row = c.grants.row;
    root = c.grants.root;
    conf = c.grants.conf;
    part = c.grants.part;
    yes = c.grants.yes;
    listed = c.grants.listed;
    acked = λ t i. by t i;
    told = c.grants.told;
  };
  lists = c.lists;
  answers = c.answers;
  plans = c.plans;
}
  where
    by : (t : ℕ) → (m ≡ Acked t naming) ⊎ In (Acked t naming) A.world.sent → (A.names.told t ≡ true) ⊎ (A.names.had t A.names.inc ≡ false)
    by t (inr i) = c.grants.acked t i
    by t (inl e) = inl (subst (IsToldFirst A.names) e first refl)

-- entries

pub entry_moved_named : (A : Office) (h : Hold) → Allowed A.world (Effects.MoveEntry h) → Named A →
    Named (acted A (Do (Effects.MoveEntry h)))
entry_moved_named A h x c = record {
  whole = effect_keeps A.world (Effects.MoveEntry h) x c.whole;
  roots = c.roots;
  rows = record {
    apart = c.rows.apart;
    alone = c.rows.alone;
    dead = c.rows.dead;
    given = c.rows.given;
    guard = c.rows.guard;
    adds = λ k s p i n. absurd (never (subst (λ (y : Hold). has s y.new.content ≡ true) (some_is p x.0) i) n);
    out = λ k s p d. absurd (never (ap (λ (y : Hold). decided S y.top) (some_is p x.0) ∙ done) d);
    since = c.rows.since;
    asked = c.rows.asked;
  };
  grants = c.grants;
  lists = record {
    had = c.lists.had;
    kept = λ a k e p u. ⊎_elim (λ (o : IsOver S (S.root a)). inl o) (λ (w : IsWide S (S.root a) k.list). inr (λ s l. w s (listed s l)))
        (c.lists.kept a k e p u);
    plan = λ t u w. let y = c.lists.plan t u w in (y.0, y.1, λ p s l. y.2 p s (listed s l));
    light = λ t s l u p j i. c.lists.light t s l u p j (listed s i);
  };
  answers = λ a m. answer a (c.answers a m);
  plans = c.plans;
}
  where
    S : State
    S = A.world.disk

    V : State
    V = changed S (Effects.MoveEntry h)

    done : decided S h.top ≡ true
    done = c.whole.mail (ToldCommit h.top naming) x.1

    listed : (s : ℕ) → Listed V s → Listed S s
    listed s (inl i) = inr (subst (λ (y : Packed). has s y.content ≡ true) (pending_last S h x.0 done c.whole.core) i)
    listed s (inr i) = inr i

    answer : (a : Answer) → AnswerMeans S A.names a → AnswerMeans V A.names a
    answer (Bound t i b l) y = (y.0, y.1, λ q e u. let z = y.2 q e u in (z.0, z.1, λ s k. z.2 s (listed s k), z.3))
    answer (Loaded t i g) y = y

-- where no entry is prepared any more, and no listed store was about to leave by it
entry_ended_named : (A : Office) (h : Hold) → ((r s : ℕ) → Listed A.world.disk s → IsLeaving A.world.disk.root (decided A.world.disk)
    A.world.disk.entry_pend r s → ⊥) → Whole (record { disk = changed A.world.disk (Effects.DropEntry h); sent = A.world.sent }) → Named A
    → Named (record { world = record { disk = changed A.world.disk (Effects.DropEntry h); sent = A.world.sent }; names = A.names })
entry_ended_named A h unleft whole c = record {
  whole = whole;
  roots = c.roots;
  rows = record {
    apart = c.rows.apart;
    alone = c.rows.alone;
    dead = c.rows.dead;
    given = c.rows.given;
    guard = λ k p. none k p;
    adds = λ k s p. none k p;
    out = λ k s p. none k p;
    since = λ k s p. none k p;
    asked = c.rows.asked;
  };
  grants = c.grants;
  lists = record {
    had = c.lists.had;
    kept = λ a k e p u. ⊎_elim (λ (o : IsOver S (S.root a)). inl o) (λ (w : IsWide S (S.root a) k.list). inr (wide (S.root a) k.list w))
        (c.lists.kept a k e p u);
    plan = λ t u w. let y = c.lists.plan t u w in (y.0, y.1, λ p. wide (S.root t) (S.plan t).list (y.2 p));
    light = c.lists.light;
  };
  answers = λ a m. answer a (c.answers a m);
  plans = c.plans;
}
  where
    S : State
    S = A.world.disk

    V : State
    V = changed S (Effects.DropEntry h)

    none : {P : Type 0} (k : Hold) → ◌≡◌ {A = Option Hold} None (Some k) → P
    none k e = cc

    wide : (r : ℕ) (l : List ℕ) → IsWide S r l → IsWide V r l
    wide r l w s i =
        ⊎_elim (λ (y : has s l ≡ true). inl y) (λ (y : IsLeaving S.root (decided S) S.entry_pend r s). absurd (unleft r s i y)) (w s i)

    answer : (a : Answer) → AnswerMeans S A.names a → AnswerMeans V A.names a
    answer (Bound t i b l) y = (y.0, y.1, λ q e u. let z = y.2 q e u in (z.0, z.1, wide (S.root t) l z.2, z.3))
    answer (Loaded t i g) y = y

pub entry_finished_named : (A : Office) (h : Hold) → Allowed A.world (Effects.FinishEntry h) → Named A →
    Named (acted A (Do (Effects.FinishEntry h)))
entry_finished_named A h x c = entry_ended_named A h unleft (effect_keeps A.world (Effects.FinishEntry h) x c.whole) c
  where
    S : State
    S = A.world.disk

    unleft : (r s : ℕ) → Listed S s → IsLeaving S.root (decided S) S.entry_pend r s → ⊥
    unleft r s l y = never (by l) (ap (λ (k : Hold). has s k.new.content) (some_is x.0 y.there) ∙ y.lacks)
      where
        by : Listed S s → has s h.new.content ≡ true
        by (inl i) = subst (λ (e : Packed). has s e.content ≡ true) x.2 i
        by (inr i) = subst (λ (e : Packed). has s e.content ≡ true)
            (sym (pending_last S h x.0 (c.whole.mail (ToldCommit h.top naming) x.1) c.whole.core)) i

undecided_drop : (A : Office) (h : Hold) → A.world.disk.entry_pend ≡ Some h → lists A.world.disk h.top naming ≡ false → Named A →
    (r s : ℕ) → Listed A.world.disk s → IsLeaving A.world.disk.root (decided A.world.disk) A.world.disk.entry_pend r s → ⊥
undecided_drop A h p unlisted c r s l y =
    never (c.whole.core.pending.listed h p (ap (λ (k : Hold). decided A.world.disk k.top) (some_is p y.there) ∙ y.done_by)) unlisted

pub entry_dropped_named : (A : Office) (h : Hold) → Allowed A.world (Effects.DropEntry h) → Named A →
    Named (acted A (Do (Effects.DropEntry h)))
entry_dropped_named A h x c = entry_ended_named A h (undecided_drop A h x.0 (c.whole.mail (ToldAbort h.top naming) x.1).2 c)
    (effect_keeps A.world (Effects.DropEntry h) x c.whole) c

pub entry_forgotten_named : (A : Office) (r : ℕ) (h : Hold) → Allowed A.world (Effects.Forget r h) → Named A →
    Named (acted A (Do (Effects.Forget r h)))
entry_forgotten_named A r h x c = entry_ended_named A h (undecided_drop A h x.0 ((c.whole.mail (ToldSerial r naming) x.1).1 h.top x.2) c)
    (effect_keeps A.world (Effects.Forget r h) x c.whole) c
