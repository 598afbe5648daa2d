-- A message to the coordinator, by what the action that had asked waits for.
use Rattle.std.proofs.Common.{◌≡◌, ℕ, ◌+◌, ◌<◌, List, [], ◌∷◌, ◌++◌, Bool, true, false, Option, Some, None, refl, ap, sym, ◌∙◌, subst}
use Rattle.std.proofs.Common.{arith, append_assoc}
use Rattle.std.specs.Prelude.{◌↔◌, IfSome, IsTrue, option_map, if◌then◌else◌}
use Rattle.arj_asking.proofs.Changes.{root_behind, same_roots}
use Rattle.arj_asking.proofs.Forgets.{forgets_call, forgets_commit, forgets_lines}
use Rattle.arj_asking.proofs.Paths.{given_up_of, heard_of}
use Rattle.arj_asking.specs.Calls.{HasNext, MeantFor}
use Rattle.arj_asking.specs.Hearing.{IsOf, asker_in, free_in, heard_as, waits_in}
use Rattle.arj_asking.specs.Rooms.{AskerHasRoom, HasRoom}
use Rattle.arj_base.proofs.Uids.{uid_is}
use Rattle.arj_base.specs.declared.state.ObjectState.{ObjectState}
use Rattle.arj_bind.specs.Heard.{Came, Onward, awaited, came_by, hears, req_after, steps_at}
use Rattle.arj_commit.specs.Steps.{heard_by}
use Rattle.arj_coord.specs.Fits.{IncludesNode, NowFits}
use Rattle.arj_coord.specs.Waiting.{idle_doing, now_in}
use Rattle.arj_protocol.specs.Ask.{Reply, actor}
use Rattle.arj_protocol.specs.Asking.{gaveup_lines, give_up_call, give_up_doing, goes_on, heard_call, heard_doing, heard_none, heard_now}
use Rattle.arj_protocol.specs.Asking.{last_req, moved_commit, root_lost, root_moved, waits_for_call}
use Rattle.arj_protocol.specs.Asking as asking
use Rattle.arj_protocol.specs.Call.{Steps, CallStep, On, Ended, Moved, answered, given_up, next_node}
use Rattle.arj_protocol.specs.Commit as commit
use Rattle.arj_protocol.specs.Commit.{Machine, plan_of}
use Rattle.arj_protocol.specs.Coord.{Coord, Doing, Keeping, Now, Idle, Calling, Committing, Root, doing_of, is_free, keeping_of, on_doing}
use Rattle.arj_protocol.specs.Coord.{on_root, root_at}
use Rattle.arj_protocol.specs.Effect.{Did, Effect, Intent, Served}
use Rattle.arj_protocol.specs.Step.{is_waiting, is_waiting_now}
use Rattle.arj_protocol.specs.Tree.{root_of}
use Rattle.arj_protocol.specs.Node.{answer_is_meant, is_loaded_for, is_loaded_in, reply_is_meant}
use Rattle.arj_protocol.specs.Words.{Uid, Asked, object, uid_eq}
use Rattle.arj_protocol.specs.Words.loaded

-- ---- a call

-- An answer to a call, where its action was taken to wait for nothing, and what follows does this.
pub hear_call_so : (P : Did Coord → Type 0) (s : Steps) (free : Bool) (o : Option Reply) (old c mid : Coord) (came : Came)
    → old ≡ on_doing (actor s.path) idle_doing c
    → free ≡ is_free (root_of s.path) (actor s.path) s.x c
    → came ≡ (hears free (keeping_of s.x (root_at (root_of s.path) old)) s o).came
    → IfSome o (λ r. mid ≡ on_root (root_of s.path) (root_moved s r (answered free ((keeping_of s.x (root_at (root_of s.path) old)).kept) s.goal s.at r)) old)
    → ((next : CallStep) (d : Coord) → came ≡ came_by s next → mid ≡ on_doing (actor s.path) idle_doing d → P (asking.step_call s next d))
    → IfSome o (λ r. P (heard_call s r c))
hear_call_so P s free None old c mid came old_is free_is came_is mid_is follows = tt
hear_call_so P s free (Some r) old c mid came old_is free_is came_is mid_is follows =
    let rt : Uid = root_of s.path in
    let keeping : (root : Root) → Keeping = λ root. keeping_of s.x root in
    let m : Moved = answered (is_free rt (actor s.path) s.x c) ((keeping (root_at rt c)).kept) s.goal s.at r in
    let same : root_at rt old ≡ root_at rt c = ap (root_at rt) old_is ∙ same_roots rt (actor s.path) idle_doing c in
    let moved_is : answered free ((keeping (root_at rt old)).kept) s.goal s.at r ≡ m =
    λ i. answered (free_is i) ((keeping (same i)).kept) s.goal s.at r in
    let came_so : came ≡ came_by s m.step = came_is ∙ ap (λ (t : Moved). came_by s t.step) moved_is in
    let mid_so : mid ≡ on_doing (actor s.path) idle_doing (on_root rt (root_moved s r m) c) =
    mid_is ∙ (λ i. on_root rt (root_moved s r (moved_is i)) (old_is i)) ∙ root_behind (actor s.path) rt idle_doing (root_moved s r m) c in
    follows m.step (on_root rt (root_moved s r m) c) came_so mid_so

next_req_is : (n : ℕ) → n < 4294967295 → req_after n ≡ n + 1
next_req_is n less = omega (arith, less)

-- A call that goes on, where its action was taken to wait for nothing, and what follows does this.
pub goes_on_so : (P : Did Coord → Type 0) (t s : Steps) (next : CallStep) (old c : Coord) → HasNext s → Onward t ≡ came_by s next →
    old ≡ on_doing (actor s.path) idle_doing c
    → P (goes_on t old) → P (asking.step_call s next c)
goes_on_so P t s (On at) old c has came idle so =
    let same : t ≡ steps_at s at = cc in
    let is : t ≡ record s { req = s.req + 1; at = at } = same ∙ ap (λ (n : ℕ). record s { req = n; at = at }) (next_req_is s.req has) in
    subst P ((λ i. goes_on (is i) (idle i)) ∙ forgets_call s (On at) c) so
goes_on_so P t s (Ended e) old c has came idle so = absurd cc

-- A giveup of a call likewise.
pub give_up_call_so : (P : Did Coord → Type 0) (s : Steps) (old c mid : Coord) (came : Came)
    → old ≡ on_doing (actor s.path) idle_doing c
    → came ≡ came_by s (given_up s.at)
    → mid ≡ on_root (root_of s.path) (root_lost s (given_up s.at)) old
    → ((next : CallStep) (d : Coord) → came ≡ came_by s next → mid ≡ on_doing (actor s.path) idle_doing d → P (asking.step_call s next d))
    → P (give_up_call s c)
give_up_call_so P s old c mid came old_is came_is mid_is follows =
    let rt : Uid = root_of s.path in
    follows (given_up s.at) (on_root rt (root_lost s (given_up s.at)) c) came_is
    (mid_is ∙ ap (on_root rt (root_lost s (given_up s.at))) old_is ∙ root_behind (actor s.path) rt idle_doing (root_lost s (given_up s.at)) c)

-- with the line of the node that didn't answer
pub lost_lines : (s : Steps) (old d : Coord) (u : Uid) (n : ℕ) (before mid after : List Effect) → u ≡ actor s.path → n ≡ next_node s →
    old ≡ on_doing (actor s.path) idle_doing d
    → mid ≡ before ++ gaveup_lines u (n ∷ []) old → after ≡ mid ++ (give_up_call s d).outs
    → after ≡ before ++ (gaveup_lines (actor s.path) (next_node s ∷ []) d ++ (give_up_call s d).outs)
lost_lines s old d u n before mid after act node idle said stepped =
    let lines : List Effect = gaveup_lines (actor s.path) (next_node s ∷ []) d in
    let rest : List Effect = (give_up_call s d).outs in
    stepped
    ∙ ap (λ (es : List Effect). es ++ rest) (said ∙ (λ i. before ++ gaveup_lines (act i) (node i ∷ []) (idle i)) ∙ ap (λ (es : List Effect). before ++ es) (forgets_lines (actor s.path) (next_node s ∷ []) d))
    ∙ append_assoc before lines rest

-- ---- who waits

-- a message at an action
abbrev heard_at : ℕ → Option (Asked × Reply) → List (Uid × Intent) → Coord → Option Doing → Served Coord (Unit {0})
heard_at from None intents c d = heard_none c
heard_at from (Some a) intents c d = heard_doing from a.0 a.1 intents c d

-- nobody had asked
pub no_asker : (from : ℕ) (o : Option (Asked × Reply)) (intents : List (Uid × Intent)) (c : Coord) → asker_in o ≡ None →
    heard_as from o intents c ≡ heard_none c
no_asker from None intents c is = refl
no_asker from (Some a) intents c is = absurd cc

at_asker : (from : ℕ) (o : Option (Asked × Reply)) (intents : List (Uid × Intent)) (c : Coord) (u : Uid) → asker_in o ≡ Some u
    → heard_as from o intents c ≡ heard_at from o intents c (doing_of u c)
at_asker from None intents c u is = refl
at_asker from (Some a) intents c u is = let act : a.0.act ≡ u = cc in ap (λ v. heard_doing from a.0 a.1 intents c (doing_of v c)) act

none_at : (from : ℕ) (o : Option (Asked × Reply)) (intents : List (Uid × Intent)) (c : Coord) →
    heard_at from o intents c None ≡ heard_none c
none_at from None intents c = refl
none_at from (Some a) intents c = refl

no_doing : (o : Option Doing) → None ≡ option_map (λ (d : Doing). d.now) o → o ≡ None
no_doing None is = refl
no_doing (Some d) is = absurd cc

-- an action that there isn't had asked
pub no_action : (from : ℕ) (o : Option (Asked × Reply)) (intents : List (Uid × Intent)) (c : Coord) (u : Uid) → asker_in o ≡ Some u
    → None ≡ option_map (λ (d : Doing). d.now) (doing_of u c) → heard_as from o intents c ≡ heard_none c
no_action from o intents c u asks none =
    at_asker from o intents c u asks ∙ ap (heard_at from o intents c) (no_doing (doing_of u c) none) ∙ none_at from o intents c

-- what the action waits for
abbrev heard_in_now : ℕ → Option (Asked × Reply) → List (Uid × Intent) → Coord → Now → Served Coord (Unit {0})
heard_in_now from None intents c now = heard_none c
heard_in_now from (Some a) intents c now = heard_now from a.0 a.1 intents c now

at_now_by : (from : ℕ) (o : Option (Asked × Reply)) (intents : List (Uid × Intent)) (c : Coord) (d : Option Doing) (n : Now) →
    Some n ≡ option_map (λ (d : Doing). d.now) d
    → heard_at from o intents c d ≡ heard_in_now from o intents c n
at_now_by from o intents c None n is = absurd cc
at_now_by from None intents c (Some d) n is = refl
at_now_by from (Some a) intents c (Some d) n is = let same : d.now ≡ n = cc in ap (heard_now from a.0 a.1 intents c) same

at_now : (from : ℕ) (o : Option (Asked × Reply)) (intents : List (Uid × Intent)) (c : Coord) (u : Uid) (n : Now) → asker_in o ≡ Some u
    → Some n ≡ option_map (λ (d : Doing). d.now) (doing_of u c) → heard_as from o intents c ≡ heard_in_now from o intents c n
at_now from o intents c u n asks there = at_asker from o intents c u asks ∙ at_now_by from o intents c (doing_of u c) n there

void_by : (from : ℕ) (o : Option (Asked × Reply)) (intents : List (Uid × Intent)) (c : Coord) (n : Now) → waits_in from o n ≡ false
    → heard_in_now from o intents c n ≡ heard_none c
void_by from None intents c n other = refl
void_by from (Some a) intents c Idle other = refl
void_by from (Some a) intents c (Calling s) other =
    ap (λ (b : Bool). if b then asking.heard_by (heard_call s a.1 c) else heard_none c) other
void_by from (Some a) intents c (Committing m) other =
    ap (λ (b : Bool). if b then asking.heard_by (moved_commit a.0.act (commit.answered from m a.1) intents c) else heard_none c) other

-- the action waits for another answer, or for none
pub not_awaited : (from : ℕ) (o : Option (Asked × Reply)) (intents : List (Uid × Intent)) (c : Coord) (u : Uid) (n : Now) →
    asker_in o ≡ Some u
    → Some n ≡ option_map (λ (d : Doing). d.now) (doing_of u c) → waits_in from o n ≡ false → heard_as from o intents c ≡ heard_none c
not_awaited from o intents c u n asks there other = at_now from o intents c u n asks there ∙ void_by from o intents c n other

same_now : (o : Option Doing) (n m : Now) → Some n ≡ option_map (λ (d : Doing). d.now) o → m ≡ now_in o → n ≡ m
same_now None n m there is = absurd cc
same_now (Some d) n m there is = cc

calling_by : (P : Served Coord (Unit {0}) →
    Type 0) (from : ℕ) (o : Option (Asked × Reply)) (intents : List (Uid × Intent)) (c : Coord) (s : Steps)
    → waits_in from o (Calling s) ≡ true → IfSome (awaited from s o) (λ r. P (asking.heard_by (heard_call s r c)))
    → P (heard_in_now from o intents c (Calling s))
calling_by P from None intents c s waits so = absurd cc
calling_by P from (Some a) intents c s waits so =
    let there : P (asking.heard_by (heard_call s a.1 c)) =
    subst (λ (b : Bool). IfSome (if b then Some a.1 else None) (λ r. P (asking.heard_by (heard_call s r c)))) waits so in
    subst (λ (b : Bool). P (if b then asking.heard_by (heard_call s a.1 c) else heard_none c)) (sym waits) there

-- a call that was taken out is answered
pub hears_call : (P : Served Coord (Unit {0}) →
    Type 0) (from : ℕ) (o : Option (Asked × Reply)) (intents : List (Uid × Intent)) (c : Coord) (u : Uid) (n : Now) (s : Steps)
    → asker_in o ≡ Some u → Some n ≡ option_map (λ (d : Doing). d.now) (doing_of u c) → waits_in from o n ≡ true →
    Calling s ≡ now_in (doing_of u c)
    → IfSome (awaited from s o) (λ r. P (asking.heard_by (heard_call s r c))) → P (heard_as from o intents c)
hears_call P from o intents c u n s asks there waits taken so =
    let now_is : n ≡ Calling s = same_now (doing_of u c) n (Calling s) there taken in
    subst P (sym (at_now from o intents c u n asks there ∙ ap (heard_in_now from o intents c) now_is))
    (calling_by P from o intents c s (subst (λ m. waits_in from o m ≡ true) now_is waits) so)

committing_by : (P : Served Coord (Unit {0}) →
    Type 0) (from : ℕ) (o : Option (Asked × Reply)) (intents : List (Uid × Intent)) (c : Coord) (u : Uid) (m : Machine)
    → asker_in o ≡ Some u → waits_in from o (Committing m) ≡ true → P (asking.heard_by (moved_commit u (heard_by from o m) intents c))
    → P (heard_in_now from o intents c (Committing m))
committing_by P from None intents c u m asks waits so = absurd cc
committing_by P from (Some a) intents c u m asks waits so =
    let act : u ≡ a.0.act = cc in
    let there : P (asking.heard_by (moved_commit a.0.act (commit.answered from m a.1) intents c)) =
    subst (λ v. P (asking.heard_by (moved_commit v (commit.answered from m a.1) intents c))) act so in
    subst (λ (b : Bool). P (if b then asking.heard_by (moved_commit a.0.act (commit.answered from m a.1) intents c) else heard_none c)) (sym waits) there

-- a commit that was taken out is answered
pub hears_commit : (P : Served Coord (Unit {0}) →
    Type 0) (from : ℕ) (o : Option (Asked × Reply)) (intents : List (Uid × Intent)) (c : Coord) (u : Uid) (n : Now) (m : Machine)
    → asker_in o ≡ Some u → Some n ≡ option_map (λ (d : Doing). d.now) (doing_of u c) → waits_in from o n ≡ true →
    Committing m ≡ now_in (doing_of u c)
    → P (asking.heard_by (moved_commit u (heard_by from o m) intents c)) → P (heard_as from o intents c)
hears_commit P from o intents c u n m asks there waits taken so =
    let now_is : n ≡ Committing m = same_now (doing_of u c) n (Committing m) there taken in
    subst P (sym (at_now from o intents c u n asks there ∙ ap (heard_in_now from o intents c) now_is))
    (committing_by P from o intents c u m asks (subst (λ k. waits_in from o k ≡ true) now_is waits) so)

-- what was taken out waited for something
pub not_idle : (from : ℕ) (o : Option (Asked × Reply)) (c : Coord) (u : Uid) (n : Now)
    → Some n ≡ option_map (λ (d : Doing). d.now) (doing_of u c) → waits_in from o n ≡ true → Idle ≡ now_in (doing_of u c) → ⊥
not_idle from o c u n there waits taken =
    let now_is : n ≡ Idle = same_now (doing_of u c) n Idle there taken in
    let never : false ≡ true = subst (λ k. waits_in from o k ≡ true) now_is waits in cc

-- ---- what fits

call_fits_by : (u : Uid) (o : Option Doing) (s : Steps) → IfSome o (λ (d : Doing). NowFits u d.req d.now) → Calling s ≡ now_in o
    → (actor s.path ≡ u) × ((s.req ≡ last_req o) × IncludesNode s.goal)
call_fits_by u None s fits is = absurd cc
call_fits_by u (Some d) s fits is = subst (NowFits u d.req) (sym is) fits

-- a call that was taken out
pub call_fits : (u : Uid) (c : Coord) (s : Steps) → IfSome (doing_of u c) (λ (d : Doing). NowFits u d.req d.now) →
    Calling s ≡ now_in (doing_of u c)
    → (actor s.path ≡ u) × ((s.req ≡ last_req (doing_of u c)) × IncludesNode s.goal)
call_fits u c s fits is = call_fits_by u (doing_of u c) s fits is

commit_fits_by : (u : Uid) (o : Option Doing) (m : Machine) → IfSome o (λ (d : Doing). NowFits u d.req d.now) → Committing m ≡ now_in o →
    actor (plan_of m).path ≡ u
commit_fits_by u None m fits is = absurd cc
commit_fits_by u (Some d) m fits is = let so : NowFits u d.req (Committing m) = subst (NowFits u d.req) (sym is) fits in so.0

pub commit_fits : (u : Uid) (c : Coord) (m : Machine) → IfSome (doing_of u c) (λ (d : Doing). NowFits u d.req d.now) →
    Committing m ≡ now_in (doing_of u c)
    → actor (plan_of m).path ≡ u
commit_fits u c m fits is = commit_fits_by u (doing_of u c) m fits is

-- its request isn't the last one
pub has_next : (u : Uid) (c : Coord) (s : Steps) → s.req ≡ last_req (doing_of u c) → HasRoom u c → HasNext s
has_next u c s is room = omega (arith, is, room)

pub asker_has_room : (o : Option (Asked × Reply)) (u : Uid) (c : Coord) → asker_in o ≡ Some u → AskerHasRoom o c → HasRoom u c
asker_has_room None u c asks room = absurd cc
asker_has_room (Some a) u c asks room = let act : a.0.act ≡ u = cc in subst (λ v. HasRoom v c) act room

-- and that is all of it
pub room_of_asker : (o : Option (Asked × Reply)) (u : Uid) (c : Coord) (b : Bool) → Some u ≡ asker_in o → (IsTrue b ↔ HasRoom u c) →
    (IsTrue b ↔ AskerHasRoom o c)
room_of_asker None u c b asks same = absurd cc
room_of_asker (Some a) u c b asks same = let act : u ≡ a.0.act = cc in subst (λ v. IsTrue b ↔ HasRoom v c) act same

pub no_asker_room : (o : Option (Asked × Reply)) (c : Coord) → None ≡ asker_in o → (IsTrue true ↔ AskerHasRoom o c)
no_asker_room None c asks = ((λ t. tt), (λ t. refl))
no_asker_room (Some a) c asks = absurd cc

loaded_by : (st : ObjectState) (o : Option Doing) (s : Steps) → is_loaded_for st o ≡ true → Calling s ≡ now_in o →
    uid_eq st.uid (object s.x) ≡ true
loaded_by st None s meant is = absurd cc
loaded_by st (Some d) s meant is = subst (λ n. is_loaded_in st n ≡ true) (sym is) meant

meant_by : (a : Asked) (r : Reply) (c : Coord) (s : Steps) → reply_is_meant c a r ≡ true → Calling s ≡ now_in (doing_of a.act c) →
    MeantFor s.x r
meant_by a (Reply.Loaded (loaded.State st)) c s meant is =
    ap (λ (u : Uid). u.num) (uid_is st.uid (object s.x) (loaded_by st (doing_of a.act c) s meant is))
meant_by a (Reply.Loaded (loaded.InDoubt holder)) c s meant is = tt
meant_by a (Reply.Bound r) c s meant is = tt
meant_by a (Reply.Activated r) c s meant is = tt
meant_by a (Reply.Noted r) c s meant is = tt
meant_by a (Reply.Invoked r) c s meant is = tt
meant_by a (Reply.Voted r) c s meant is = tt
meant_by a (Reply.Prepared r) c s meant is = tt
meant_by a (Reply.Confirmed r) c s meant is = tt

some_meant : (b : Bool) (x : ℕ) (r : Reply) → MeantFor x r → IfSome (if b then Some r else None) (MeantFor x)
some_meant true x r meant = meant
some_meant false x r meant = tt

-- a state that it was sent is of its object
pub call_meant : (from : ℕ) (o : Option (Asked × Reply)) (c : Coord) (u : Uid) (s : Steps) → asker_in o ≡ Some u →
    answer_is_meant c o ≡ true
    → Calling s ≡ now_in (doing_of u c) → IfSome (awaited from s o) (MeantFor s.x)
call_meant from None c u s asks meant is = tt
call_meant from (Some a) c u s asks meant is =
    let act : u ≡ a.0.act = cc in
    some_meant (waits_for_call from a.0 a.1 s) s.x a.1 (meant_by a.0 a.1 c s meant (subst (λ v. Calling s ≡ now_in (doing_of v c)) act is))

-- ---- what was taken out is answered or given up

pub hears_call_so : (P : Served Coord (Unit {0}) →
    Type 0) (from : ℕ) (o : Option (Asked × Reply)) (intents : List (Uid × Intent)) (c mid : Coord) (u : Uid) (n : Now) (s : Steps) (free : Bool)
    → asker_in o ≡ Some u → Some n ≡ option_map (λ (d : Doing). d.now) (doing_of u c) → waits_in from o n ≡ true →
    Calling s ≡ now_in (doing_of u c)
    → IfSome (doing_of u c) (λ (d : Doing). NowFits u d.req d.now) → mid ≡ on_doing u idle_doing c → free ≡ free_in c n
    → ((d : Coord) → mid ≡ on_doing (actor s.path) idle_doing d → free ≡ is_free (root_of s.path) (actor s.path) s.x d →
    IfSome (awaited from s o) (λ r. P (asking.heard_by (heard_call s r d))))
    → P (heard_as from o intents c)
hears_call_so P from o intents c mid u n s free asks there waits taken fits idle free_is so =
    let act : actor s.path ≡ u = (call_fits u c s fits taken).0 in
    let now_is : n ≡ Calling s = same_now (doing_of u c) n (Calling s) there taken in
    hears_call P from o intents c u n s asks there waits taken
    (so c (idle ∙ ap (λ v. on_doing v idle_doing c) (sym act)) (free_is ∙ ap (free_in c) now_is))

pub hears_commit_so : (P : Served Coord (Unit {0}) →
    Type 0) (from : ℕ) (o : Option (Asked × Reply)) (intents : List (Uid × Intent)) (c mid : Coord) (u : Uid) (n : Now) (m : Machine)
    → asker_in o ≡ Some u → Some n ≡ option_map (λ (d : Doing). d.now) (doing_of u c) → waits_in from o n ≡ true →
    Committing m ≡ now_in (doing_of u c)
    → IfSome (doing_of u c) (λ (d : Doing). NowFits u d.req d.now) → mid ≡ on_doing u idle_doing c
    → P (asking.heard_by (moved_commit (actor (plan_of m).path) (heard_by from o m) intents mid))
    → P (heard_as from o intents c)
hears_commit_so P from o intents c mid u n m asks there waits taken fits idle so =
    let act : actor (plan_of m).path ≡ u = commit_fits u c m fits taken in
    let own : IsOf u ((heard_by from o m).step) = subst (λ v. IsOf v ((heard_by from o m).step)) act (heard_of from o m) in
    hears_commit P from o intents c u n m asks there waits taken
    (subst (λ d. P (asking.heard_by d)) ((λ i. moved_commit (act i) (heard_by from o m) intents (idle i)) ∙ forgets_commit u (heard_by from o m) intents c own) so)

given_by : (u : Uid) (intents : List (Uid × Intent)) (c : Coord) (o : Option Doing) (n : Now) → is_waiting_now n ≡ true → n ≡ now_in o
    → give_up_doing u intents c o ≡ asking.gives_up u intents c n
given_by u intents c None n waits is = let never : false ≡ true = subst (λ k. is_waiting_now k ≡ true) is waits in absurd cc
given_by u intents c (Some d) n waits is = ap (asking.gives_up u intents c) (sym is)

pub gives_up_call_so : (P : Did Coord → Type 0) (intents : List (Uid × Intent)) (c mid : Coord) (u : Uid) (s : Steps)
    → Calling s ≡ now_in (doing_of u c) → IfSome (doing_of u c) (λ (d : Doing). NowFits u d.req d.now) → mid ≡ on_doing u idle_doing c
    → ((d : Coord) → mid ≡ on_doing (actor s.path) idle_doing d →
    P (record { part = (give_up_call s d).part; outs = gaveup_lines (actor s.path) (next_node s ∷ []) d ++ (give_up_call s d).outs }))
    → P (asking.give_up u intents c)
gives_up_call_so P intents c mid u s taken fits idle so =
    let act : actor s.path ≡ u = (call_fits u c s fits taken).0 in
    let there : P (record { part = (give_up_call s c).part; outs = gaveup_lines u (next_node s ∷ []) c ++ (give_up_call s c).outs }) =
    subst (λ v. P (record { part = (give_up_call s c).part; outs = gaveup_lines v (next_node s ∷ []) c ++ (give_up_call s c).outs })) act
    (so c (idle ∙ ap (λ v. on_doing v idle_doing c) (sym act))) in
    subst P (sym (given_by u intents c (doing_of u c) (Calling s) refl taken)) there

pub gives_up_commit_so : (P : Did Coord → Type 0) (intents : List (Uid × Intent)) (c mid : Coord) (u : Uid) (m : Machine)
    → Committing m ≡ now_in (doing_of u c) → IfSome (doing_of u c) (λ (d : Doing). NowFits u d.req d.now) → mid ≡ on_doing u idle_doing c
    → P (record {
      part = (moved_commit (actor (plan_of m).path) (commit.given_up m) intents mid).part;
      outs = gaveup_lines (actor (plan_of m).path) (commit.nodes_given_up m) mid ++ (moved_commit (actor (plan_of m).path) (commit.given_up m) intents mid).outs;
    })
    → P (asking.give_up u intents c)
gives_up_commit_so P intents c mid u m taken fits idle so =
    let act : actor (plan_of m).path ≡ u = commit_fits u c m fits taken in
    let own : IsOf u ((commit.given_up m).step) = subst (λ v. IsOf v ((commit.given_up m).step)) act (given_up_of m) in
    let moved : moved_commit (actor (plan_of m).path) (commit.given_up m) intents mid ≡ moved_commit u (commit.given_up m) intents c =
    (λ i. moved_commit (act i) (commit.given_up m) intents (idle i)) ∙ forgets_commit u (commit.given_up m) intents c own in
    let lines : gaveup_lines (actor (plan_of m).path) (commit.nodes_given_up m) mid ≡ gaveup_lines u (commit.nodes_given_up m) c =
    (λ i. gaveup_lines (act i) (commit.nodes_given_up m) (idle i)) ∙ forgets_lines u (commit.nodes_given_up m) c in
    subst P ((λ i. record {
      part = (moved i).part;
      outs =
          lines i ++ (moved i).outs;
    }) ∙ sym (given_by u intents c (doing_of u c) (Committing m) refl taken)) so

idle_by : (u : Uid) (intents : List (Uid × Intent)) (c : Coord) (o : Option Doing) → is_waiting o ≡ false →
    give_up_doing u intents c o ≡ record { part = c; outs = [] }
idle_by u intents c None idle = refl
idle_by u intents c (Some d) idle = by d.now refl
  where
    by : (n : Now) → d.now ≡ n → asking.gives_up u intents c d.now ≡ record { part = c; outs = [] }
    by Idle is = ap (asking.gives_up u intents c) is
    by (Calling s) is = let never : true ≡ false = sym (ap is_waiting_now is) ∙ idle in absurd cc
    by (Committing m) is = let never : true ≡ false = sym (ap is_waiting_now is) ∙ idle in absurd cc

-- what waits for nothing isn't given up
pub gives_up_nothing : (u : Uid) (intents : List (Uid × Intent)) (c : Coord) → is_waiting (doing_of u c) ≡ false →
    asking.give_up u intents c ≡ record { part = c; outs = [] }
gives_up_nothing u intents c idle = idle_by u intents c (doing_of u c) idle

waiting_by : (o : Option Doing) → is_waiting o ≡ true → Idle ≡ now_in o → ⊥
waiting_by None waits is = absurd cc
waiting_by (Some d) waits is = let never : false ≡ true = ap is_waiting_now is ∙ waits in absurd cc

-- what waits isn't idle
pub waits_for_something : (u : Uid) (c : Coord) → is_waiting (doing_of u c) ≡ true → Idle ≡ now_in (doing_of u c) → ⊥
waits_for_something u c waits is = waiting_by (doing_of u c) waits is

-- what is answered is taken
pub taken_so : (o : Option Reply) → IfSome o (λ r. true ≡ true)
taken_so None = tt
taken_so (Some r) = refl

-- a commit that was taken out waits for it
pub commit_awaited : (from : ℕ) (o : Option (Asked × Reply)) (c : Coord) (u : Uid) (n : Now) (m : Machine)
    → Some n ≡ option_map (λ (d : Doing). d.now) (doing_of u c) → waits_in from o n ≡ true → Committing m ≡ now_in (doing_of u c) →
    waits_in from o (Committing m) ≡ true
commit_awaited from o c u n m there waits taken =
    subst (λ k. waits_in from o k ≡ true) (same_now (doing_of u c) n (Committing m) there taken) waits
