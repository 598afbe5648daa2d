-- Whom a coordinator's lines are about: each says the label of an action at work there, and those labels stay.
use Rattle.arj_law_parts.proofs.Words
use Words.{◌≡◌, ◌&&◌, ℕ, zero, suc, Bool, true, false, cond, List, [], ◌∷◌, refl, sym, subst, Option, Some, None, ⊤, AllByRecursion}
use Words.{list_all}
use Words.{Body, Label, Uid, CallEnd, Answered, Included, Conflict, Changed, Lost, Goal, Run, Include, end_line, Coord, Doing, Idle}
use Words.{Calling}
use Words.{Committing, doing_of, change_doing, on_doing, Effect, actor, plan_of, participants, at_place, set_place, slice_get, slice_set}
use Words.{Line}
use Words.{name, ended_at}
use Words.body
use Words.ending
use Words.input
use Rattle.arj_law_parts.proofs.coordinator
use coordinator.Trace.{ActionEnds, Answers, CallEnds, Came, CommitBegins, CommitsIn, Dooms, Ends, EndsAsked, EndsAt, EndsDecided}
use coordinator.Trace.{EndsDoomed, EndsFailed, EndsNested, EndsSerial, Excludes, GaveUpCall, GaveUpCommit, Lines, Move, Out, Rests, Takes}
use coordinator.Trace.{TakesPart, Trace, Turns, Waits, trace_says}
use coordinator.Trace as trace
use Rattle.arj_law_serial.proofs.holding.Says.{All, says}
use Rattle.arj_law_cause.specs.told.Local.{began_at, is_own_line}

-- no action begins
abbrev pub BeginsNone : Came → Type 0
BeginsNone (Takes (input.Begin l k parent) intents) = ⊥
BeginsNone came = ⊤

-- ---- lists

all_at : {A : Type 0} (P : A → Type 0) (xs : List A) (j : ℕ) (x : A) → AllByRecursion P xs → at_place j xs ≡ Some x → P x
all_at {A} P xs zero x all is = let no_way : ◌≡◌ {A = Option A} None (Some x) = is in absurd (cc no_way)
all_at {A} P xs (suc j) x all is = by xs j all is
  where
    by : (ys : List A) (j : ℕ) → AllByRecursion P ys → slice_get ys j ≡ Some x → P x
    by [] j all is = let no_way : ◌≡◌ {A = Option A} None (Some x) = is in absurd (cc no_way)
    by (y ∷ ys) zero all is = let same : y ≡ x = cc in subst P same all.0
    by (y ∷ ys) (suc j) all is = by ys j all.1 is

all_set : {A : Type 0} (P : A → Type 0) (xs : List A) (j : ℕ) (x : A) → AllByRecursion P xs → P x → AllByRecursion P (set_place j x xs)
all_set P xs zero x all its = all
all_set {A} P xs (suc j) x all its = by xs j all
  where
    by : (ys : List A) (j : ℕ) → AllByRecursion P ys → AllByRecursion P (slice_set ys j x)
    by [] j all = tt
    by (y ∷ ys) zero all = (its, all.1)
    by (y ∷ ys) (suc j) all = (all.0, by ys j all.1)

-- ---- a node's actions

module _ (lines : List Line) (k : ℕ) where
  abbrev Its : Doing → Type 0
  Its d = began_at lines (name d.label) k ≡ true

  -- by these lines each action at work began at this node
  abbrev pub AreHere : Coord → Type 0
  AreHere c = AllByRecursion Its c.doings

  found : (u : Uid) (c : Coord) (d : Doing) → AreHere c → doing_of u c ≡ Some d → Its d
  found u c d all is = by (Words.is_own u c.tree) is
    where
      by : (o : Bool) → cond o (at_place u.num c.doings) None ≡ Some d → Its d
      by true e = all_at Its c.doings u.num d all e
      by false e = let no_way : ◌≡◌ {A = Option Doing} None (Some d) = e in absurd (cc no_way)

  on_so : (u : Uid) (f : Doing → Doing) (c : Coord) → ((d : Doing) → (f d).label ≡ d.label) → AreHere c → AreHere (on_doing u f c)
  on_so u f c keeps all = by (doing_of u c) refl
    where
      by : (o : Option Doing) → doing_of u c ≡ o → AreHere (change_doing f u c o)
      by None is = all
      by (Some d) is = all_set Its c.doings u.num (f d) all
          (subst (λ (l : Label). began_at lines (name l) k ≡ true) (sym (keeps d)) (found u c d all is))

  move_so : {c : Coord} {came : Came} → BeginsNone came → (e f : Coord) → Move c came e f → AreHere e → AreHere f
  move_so none _ _ (trace.Begins l how parent intents) w = absurd none
  move_so none _ _ (Waits s e is) w = on_so (actor s.path) (λ (d : Doing). record d { req = s.req; now = Calling s }) e (λ d. refl) w
  move_so none _ _ (Turns s t _ (Answers from a r intents d _ found is waits)) w = w
  move_so none _ _ (Rests s t e g turn is) w = on_so (actor s.path) (λ (d : Doing). record d { now = Idle }) e (λ d. refl) w
  move_so {c} none _ _ (CommitsIn u m on) w =
      on_so u (λ (d : Doing). record d { req = (plan_of m).req; now = Committing m }) c (λ d. refl) w
  move_so none _ _ (EndsAt u how f e ends) w =
      on_so u (λ (d : Doing). record d { now = Idle }) (record e { tree = ended_at u how e.tree }) (λ d. refl) w
  move_so {c} none _ _ (TakesPart u p ends) w = on_so (actor p.path) (λ (d : Doing). record d { took = participants p })
      (Words.ended (actor p.path) ending.Commit c) (λ d. refl) w
  move_so none _ _ _ w = w

  -- ---- what is said

  -- it says the label
  abbrev SaysIt : (Label → Body) → Type 0
  SaysIt f = (l : Label) → began_at lines (name l) k ≡ true → is_own_line lines k (f l) ≡ true

  call_says : (x : ℕ) (g : Goal) (e : CallEnd) → SaysIt (end_line x g e)
  call_says x (Run o) (Answered a) l is = is
  call_says x (Include s) (Answered a) l is = is
  call_says x g (Included s) l is = is
  call_says x g (Conflict holder m n) l is = is
  call_says x g (Changed n w) l is = is
  call_says x g (Lost n sent) l is = is

  ends_says : {c : Coord} {came : Came} {u : Uid} {how : Words.End} {f : Label → Body} → Ends c came u how f → SaysIt f
  ends_says (EndsNested m b intents named going nested) l is = is
  ends_says (EndsSerial m b intents named going serial) l is = is
  ends_says (EndsDoomed m b intents named doomed) l is = is
  ends_says (EndsAsked m b intents u named below) l is = is
  ends_says (EndsFailed u t why p turn aborts) l is = is
  ends_says (EndsDecided u p decided) l is = is

  lines_say : {c : Coord} {came : Came} {u : Uid} {f : Label → Body} → Lines c came u f → SaysIt f
  lines_say (CallEnds s t e g turn ends) l is = call_says s.x s.goal g l is
  lines_say (Excludes u t m turn marked) l is = is
  lines_say (GaveUpCall m b intents d s named found at) l is = is
  lines_say (GaveUpCommit m b intents d w n named found at given) l is = is
  lines_say (CommitBegins m b intents named going top plain) l is = is
  lines_say (ActionEnds u how f ends) l is = ends_says ends l is

  abbrev Own : Effect → Type 0
  Own x = says (is_own_line lines k) x ≡ true

  out_so : {c : Coord} {came : Came} → BeginsNone came → (e : Coord) (x : Effect) → Out c came e x → AreHere e → Own x
  out_so none e x (trace.Says u f d g its at) w = lines_say its d.label (found u e d w at)
  out_so none e x (trace.SaysBegan l how parent intents) w = absurd none
  out_so none e x (trace.TellsNested u how f b n g ends so at nested sent) w = refl
  out_so none e x (trace.TellsSerial u how f b n g ends so at serial sent off) w = refl
  out_so none e x (trace.TellsTop u how f b n g ends so at top plain sent) w = refl
  out_so none e x (trace.PutsRecord u p decided has) w = refl
  out_so none e x (trace.TellsCommitted u p n g decided sent took) w = refl
  out_so none e x (trace.TellsLeft u p n g decided sent off) w = refl
  out_so none e x (trace.RemovesRecord from u intents i at has none_left) w = refl
  out_so none e x (trace.TellsLetGo from u intents i n g at over let_go) w = refl
  out_so none e x (trace.AsksIt p req n a g asks) w = refl

  all_bool : (es : List Effect) → AllByRecursion Own es → All (is_own_line lines k) es
  all_bool [] all = refl
  all_bool (x ∷ es) all = λ i. all.0 i && all_bool es all.1 i

  -- what a coordinator does leaves its labels, and says no others
  pub trace_own : {c : Coord} {came : Came} {e : Coord} {outs : List Effect} → BeginsNone came → Trace c came c outs e → AreHere c →
      All (is_own_line lines k) outs × AreHere e
  trace_own {c} {came} {e} {outs} none t all =
      let r = trace_says AreHere (move_so none) Own (out_so none) t all in (all_bool outs r.1, r.0)
