-- Who waits as a quiesce begins that nothing cuts short, and behind it, by the journal.
use Rattle.arj_law_parts.proofs.Words
use Words.{◌≡◌, ◌∙◌, ◌+◌, ◌<◌, ◌==◌, ◌&&◌, ◌||◌, not, ltb-true, binding_number, ℕ, Bool, true, false, List, [], ◌∷◌, ◌++◌, refl, sym, ap}
use Words.{subst, arith, nat_tests}
use Words.{Option, Some, None, is_some, option_map, ◌⊎◌, inl, inr, ⊎_elim, In, in_from, in_left, list_any-append, and_parts, list_all}
use Words.{list_any, bytes_eq}
use Words.{bytes_eq-Decides, Body, Cause, Event, Header, Line, Label, Uid, Binding, name, Move, World, moved, world_by, Doing, Calling}
use Words.{Committing, Idle, Now}
use Words.{Node, Parts, at_place, coord_in, coord_of, doing_of, is_waiting_now, see, AreUp, HasAnswer, IsAnswerTo, IsOvertaken, IsSaid}
use Words.{WaitsOvertaken, Steps, Goal, Include, At, AtActivate, AtNote, Known, CallEnd, end_line, EndsQuiet, is_refusal}
use Words.body
use Words.event
use Words.cause
use Rattle.arj_law_parts.proofs.Terms.which
use Rattle.arj_law_promise.proofs.Terms.{Holds, moves_asked, WaitsAreKnown}
use Rattle.arj_law_promise.proofs.waiting.Gives.{at_of}
use Rattle.arj_law_promise.proofs.waiting.Keeping.{waits_keep}
use Rattle.arj_law_promise.proofs.settling.{Idle.quiesces_idle, Waiting.quiesces_answer_the_rest, Waiting.runs_leave_overtaken}
use Rattle.arj_law_runs.proofs.resting.UpRuns.{all_stay_up}
use Rattle.arj_law_runs.proofs.follow.Along.{event_of}
use Rattle.arj_law_parts.proofs.moves.Moving.{more_moves}
use Rattle.arj_law_lock_view.specs.asking.Asked.{asks_goal}
use Rattle.arj_model.specs.CauseNodes.{is_quiesce}
use Rattle.arj_model.specs.Past.{Past, block, is_refused, next}
use Rattle.arj_model.specs.Refusals.{is_committing, is_waiting, waits_for}
use Rattle.arj_model.specs.Own.{is_refusal_of_commit, may_stand}
use Rattle.arj_promise.specs.Runs.{HeaderFits, Run, then}
use Rattle.arj_class.specs.declared.op.Op.{Op}
use Rattle.arj_law_promise.specs.waiting.Asked.{NamedAt, WasMade, WasNamed}
use Rattle.arj_law_runs.specs.addresses.Binds.{StandsOn}
use Rattle.arj_promise.specs.Runs.{Seen}
use Rattle.arj_promise.specs.Waiting.{IsToSettle}
use Rattle.arj_protocol.specs.Call as calls
use Rattle.arj_protocol.specs.Call.{AtBind}
use Rattle.arj_protocol.specs.Coord.{kept_of, root_at}
use Rattle.arj_protocol.specs.Order.{binding_less}
use Rattle.arj_protocol.specs.Tree.{root_of}
use Rattle.arj_law_cause.proofs.quiesces.Journals
use Journals.{all_in, asks_same, ends_one, in_block, is_late, none_halts, none_limits, says_last, waits_same}
use Rattle.arj_law_cause.proofs.quiesces.Limits.{limit_on}
use Rattle.arj_law_cause.proofs.quiesces.Ties as ties
use Rattle.arj_law_cause.proofs.told.Joined as joined
use Rattle.arj_law_cause.proofs.waits.waiting.Lists.{any_in}
use Rattle.arj_law_cause.specs.follow.lines.Lines.{HasLines, LinesStep, may_stand_or_lose}
use Rattle.arj_law_cause.specs.rounds.Known.{has_limit}
use Rattle.arj_law_cause.specs.rounds.Quiesces.{Answers, IsWhole, SaysQuiet, answers_call, answers_commit, cuts_short, is_bound_twice}
use Rattle.arj_law_cause.specs.rounds.Quiesces.{is_outdone}
use Rattle.arj_law_cause.specs.rounds.Quiesces.{is_given_up, is_overtaken, makes_later}
use Rattle.arj_law_cause.specs.waits.commits.Commits.{CommitsFit, CommitsStep}
use Rattle.arj_law_cause.specs.waits.lost.Lost.{LostStep, is_lost}
use Rattle.arj_law_cause.specs.waits.waiting.Waits.{IsAsked, IsAt, IsAtWork}
use Rattle.arj_law_parts.proofs.moves.Happens.{keeps_asked}
use Rattle.arj_law_runs.specs.calls.Bindings.{HasFewBindings}
use Rattle.arj_model.specs.CauseCopies.{is_older}
use Rattle.arj_law_cause.proofs.bindings.Active.{older_is}
use Rattle.arj_law_cause.proofs.bindings.Counted.{KnowsNames, names_keep}
use Rattle.arj_law_cause.proofs.bindings.Latest.{count_small, said_lined}
use Rattle.std.proofs.lemmas.List.{append_cancel_left}

-- what is kept of a run up to an event: all that lines are tied to, and that it is over where its journal has a limit
pub record Kept (hd : Header) (form : HeaderFits hd) (p : Past) (w : World) : Type 0 where
  pub all : joined.Inv hd form p w
  pub limits : w.over ≡ has_limit w.lines

-- ---- an event that is a quiesce

pub quiesce_is : (e : Event) → is_quiesce e ≡ true → e ≡ event.Quiesce
quiesce_is event.Quiesce is = refl
quiesce_is e is = absurd (cc is)

may_late : (b : Body) → may_stand_or_lose event.Quiesce b ≡ true → is_late b ≡ true
may_late (body.Began l k u p) is = absurd (cc is)
may_late (body.Committing l) is = absurd (cc is)
may_late b is = refl

all_late : (bs : List Body) → list_all (may_stand_or_lose event.Quiesce) bs ≡ true → list_all is_late bs ≡ true
all_late [] all = refl
all_late (b ∷ bs) all =
    let p = and_parts (may_stand_or_lose event.Quiesce b) (list_all (may_stand_or_lose event.Quiesce) bs) all in
    λ i. may_late b p.0 i && all_late bs p.1 i

late_on : (bs cs : List Body) → list_all is_late bs ≡ true → list_all is_late cs ≡ true → list_all is_late (bs ++ cs) ≡ true
late_on [] cs all more = more
late_on (b ∷ bs) cs all more = let p = and_parts (is_late b) (list_all is_late bs) all in λ i. p.0 i && late_on bs cs p.1 more i

one_kept : (b : Body) → may_stand_or_lose event.Quiesce b ≡ true → is_lost b ≡ false → is_given_up b ≡ false
one_kept (body.Lost l n) is kept = absurd (cc kept)
one_kept (body.GaveUp l n) is kept = absurd (cc is)
one_kept (body.Aborted l c) is kept = by (is_refusal_of_commit c) is
  where
    by : (x : Bool) → (x || false) ≡ true → not x ≡ false
    by true is = refl
    by false is = absurd (cc is)
one_kept b is kept = refl

all_kept : (bs : List Body) → list_all (may_stand_or_lose event.Quiesce) bs ≡ true → ((b : Body) → In b bs → is_lost b ≡ false) →
    list_any is_given_up bs ≡ false
all_kept [] all kept = refl
all_kept (b ∷ bs) all kept =
    let p = and_parts (may_stand_or_lose event.Quiesce b) (list_all (may_stand_or_lose event.Quiesce) bs) all in
    λ i. one_kept b p.0 (kept b (inl refl)) i || all_kept bs p.1 (λ c there. kept c (inr there)) i

-- its lines begin nothing and call no commit, there are some, and where none is lost nothing is given up
record Lines (bodies : List Body) : Type 0 where
  pub late : list_all is_late bodies ≡ true
  pub some : bodies ≡ [] → ⊥
  pub kept : ((b : Body) → In b bodies → is_lost b ≡ false) → list_any is_given_up bodies ≡ false

behind_some : (bs : List Body) (b : Body) → bs ++ b ∷ [] ≡ [] → ⊥
behind_some [] b is = absurd (cc is)
behind_some (c ∷ cs) b is = absurd (cc is)

its_lines : (hd : Header) (p : Past) (bodies : List Body) → LinesStep hd p event.Quiesce bodies → Lines bodies
its_lines hd p bodies l = by bodies (is_refused bodies) refl l.lines
  where
    one : (bs : List Body) → is_refused bs ≡ true → Lines bs
    one (body.Refused c ∷ []) is = record { late = refl; some = λ off. cc off; kept = λ none. refl }
    one bs is = absurd (cc is)

    ended : (last : List Body) → ((b : Bool) × (last ≡ body.Quiet b ∷ [])) ⊎ (last ≡ body.Limit which.Frames ∷ []) →
        (b : Body) × (last ≡ b ∷ []) × (is_late b ≡ true) × (is_given_up b ≡ false)
    ended last (inl q) = (body.Quiet q.0, q.1, refl, refl)
    ended last (inr is) = (body.Limit which.Frames, is, refl, refl)

    by : (bs : List Body) (b : Bool) → is_refused bs ≡ b → (is_refused bs ≡ false → HasLines hd p event.Quiesce bs) → Lines bs
    by bs true is has = one bs is
    by bs false off has =
        let h = has off in
        let e = ended h.last h.ends in
        let whole : bs ≡ h.others ++ e.0 ∷ [] = h.parts ∙ (λ i. h.begins i ++ (h.others ++ e.1 i)) in
        record {
          late = ap (list_all is_late) whole ∙ late_on h.others (e.0 ∷ []) (all_late h.others h.only) (λ i. e.2 i && true);
          some = λ none. behind_some h.others e.0 (sym whole ∙ none);
          kept = λ none. ap (list_any is_given_up) whole ∙ list_any-append is_given_up h.others (e.0 ∷ [])
              ∙ (λ i. all_kept h.others h.only (λ b there. none b (subst (In b) (sym whole) (in_left b h.others (e.0 ∷ []) there))) i
              || (e.3 i || false));
        }

-- nothing is lost in it
none_lost : (hd : Header) (p : Past) (bodies : List Body) → LostStep hd p event.Quiesce bodies → (b : Body) → In b bodies →
    is_lost b ≡ false
none_lost hd p bodies lost b there = by b (all_in (λ (c : Body). is_lost c ≡ true → may_stand event.Quiesce c ≡ true) bodies lost b there)
  where
    by : (b : Body) → (is_lost b ≡ true → may_stand event.Quiesce b ≡ true) → is_lost b ≡ false
    by (body.Lost l n) may = let no_way : false ≡ true = may refl in absurd (cc no_way)
    by b may = refl

-- ---- answers

same_name : (l : List ℕ) → bytes_eq l l ≡ true
same_name l = (bytes_eq-Decides l l).1 refl

ended_call : (x : ℕ) (g : Goal) (e : CallEnd) (l : Label) → is_lost (end_line x g e l) ≡ false →
    answers_call (name l) (end_line x g e l) ≡ true
ended_call x (calls.Run o) (calls.Answered a) l kept = λ i. same_name (name l) i && true
ended_call x (Include n) (calls.Answered a) l kept = λ i. same_name (name l) i && true
ended_call x g (calls.Included st) l kept = λ i. same_name (name l) i && true
ended_call x g (calls.Conflict holder mode n) l kept = λ i. same_name (name l) i && true
ended_call x g (calls.Changed n what) l kept = λ i. same_name (name l) i && true
ended_call x g (calls.Lost n sent) l kept = absurd (cc kept)

refused_commit : (l : Label) (why : Cause) → is_refusal why ≡ true → answers_commit (name l) (body.Aborted l why) ≡ true
refused_commit l cause.Asked is = absurd (cc is)
refused_commit l cause.Doomed is = absurd (cc is)
refused_commit l (cause.Lost n) is = absurd (cc is)
refused_commit l (cause.Conflict holder mode n) is = λ i. same_name (name l) i && true
refused_commit l (cause.Changed n difference) is = λ i. same_name (name l) i && true
refused_commit l (cause.Old n x version) is = λ i. same_name (name l) i && true
refused_commit l (cause.NoStores x) is = λ i. same_name (name l) i && true
refused_commit l (cause.Listed x n) is = λ i. same_name (name l) i && true

refusal_ends : (l : Label) (why : Cause) → is_refusal why ≡ true →
    Rattle.arj_law_cause.specs.waits.commits.Commits.ends_commit (body.Aborted l why) ≡ true
refusal_ends l cause.Asked is = absurd (cc is)
refusal_ends l cause.Doomed is = absurd (cc is)
refusal_ends l why is = refl

-- ---- who is overtaken

same_number : (x : ℕ) → (x == x) ≡ true
same_number x = grind (arith, nat_tests)

twice_bound : (lines : List Line) (x : ℕ) (b c : Binding) (n k : ℕ) → IsSaid lines (body.Bound x b n) → IsSaid lines (body.Bound x c k) →
    is_older b c ≡ true → is_bound_twice lines x ≡ true
twice_bound lines x b c n k one two less =
    any_in (λ (l : Line). is_outdone x lines l.body) lines one.0 (in_from one.0 lines one.1)
    (ap (is_outdone x lines) one.2 ∙ (λ i. same_number x i && later i))
  where
    later : list_any (λ (l : Line). makes_later x b l.body) lines ≡ true
    later = any_in (λ (l : Line). makes_later x b l.body) lines two.0 (in_from two.0 lines two.1)
        (ap (makes_later x b) two.2 ∙ (λ i. same_number x i && less i))

-- of a run the call that is overtaken is on an object of which two bindings were made
overtaken_so : (hd : Header) → HeaderFits hd → (r : Run hd) (k : ℕ) (n : Node) (t : Parts) (u : Uid) (d : Doing) (s : Steps) →
    at_place k (let w = world_by hd r in w.nodes) ≡ Some n → n.live ≡ Some t → doing_of u t.coord ≡ Some d → d.now ≡ Calling s →
    IsOvertaken (IsSaid (let w = world_by hd r in w.lines)) s → HasFewBindings (let w = world_by hd r in w.lines) →
    (o : Op) × (s.goal ≡ calls.Run o) × (is_bound_twice (let w = world_by hd r in w.lines) s.x ≡ true)
overtaken_so hd form r k n t u d s there live does now over few =
    by s.goal refl s.at over.step stands named
  where
    known : Holds hd (WaitsAreKnown hd) (world_by hd r)
    known = moves_asked hd (WaitsAreKnown hd) (waits_keep hd form) r

    M : Seen
    M = see (moves_asked hd (WaitsAreKnown hd) (waits_keep hd form) r).sent (world_by hd r)

    named : NamedAt M.sent (WasMade M) s.goal s.path s.x s.at
    named = let a = known.holds.1.0.1 in a.steps k n t there live u d s does now

    stands : StandsOn s.goal (kept_of s.x (root_at (root_of s.path) t.coord)) s.at
    stands = let b = known.holds.0.1.0.0.1 in let z = b.nodes k n t there live in z.steps u d s does now

    names : Holds hd KnowsNames (world_by hd r)
    names = moves_asked hd KnowsNames (keeps_asked hd KnowsNames (names_keep hd)) r

    small : (b : Binding) (n : ℕ) → IsSaid (let w = world_by hd r in w.lines) (body.Bound s.x b n) → b.count < 4294967296
    small b n line = count_small (let w = world_by hd r in w.start) (let w = world_by hd r in w.lines) names.holds.1.0 few s.x b n
        (said_lined (let w = world_by hd r in w.lines) s.x b n line)

    said : (b : Binding) → over.known.binding ≡ b → (g : ℕ) → WasNamed M.sent (WasMade M) s.path s.x b g →
        is_bound_twice (let w = world_by hd r in w.lines) s.x ≡ true
    said b same g made = let c = made.claim in
        twice_bound (let w = world_by hd r in w.lines) s.x b over.binding made.server over.server c.0 over.line
        (older_is b over.binding (small b made.server c.0) (small over.binding over.server over.line)
        (ltb-true (binding_number b) (binding_number over.binding) (ap (λ (z : Binding). binding_less z over.binding) (sym same)
        ∙ over.greater)))

    by : (g : Goal) → s.goal ≡ g → (at : At) → IsToSettle at over.known → StandsOn g (kept_of s.x (root_at (root_of s.path) t.coord)) at →
        NamedAt M.sent (WasMade M) g s.path s.x at →
        (o : Op) × (s.goal ≡ calls.Run o) × (is_bound_twice (let w = world_by hd r in w.lines) s.x ≡ true)
    by (calls.Run o) is (AtActivate q st) to stand name = (o, is, said q.binding (ap (λ (z : Known). z.binding) (sym to)) q.grant name.0)
    by (calls.Run o) is (AtNote q i) to stand name = (o, is, said q.binding (ap (λ (z : Known). z.binding) (sym to)) q.grant name)
    by (calls.Run o) is (AtBind avoid) to stand name = absurd to
    by (calls.Run o) is (calls.AtLoad q n rest) to stand name = absurd to
    by (calls.Run o) is (calls.AtInvoke q i) to stand name = absurd to
    by (Include n) is (AtActivate q st) to stand name = absurd stand
    by (Include n) is (AtNote q i) to stand name = absurd stand
    by (Include n) is (AtBind avoid) to stand name = absurd to
    by (Include n) is (calls.AtLoad q m rest) to stand name = absurd to
    by (Include n) is (calls.AtInvoke q i) to stand name = absurd to

-- ---- a call that is overtaken, behind an event

module _ (hd : Header) (form : HeaderFits hd) (front : Run hd) (m : Move) (q : Past) (after : Kept hd form q (moved m
    (world_by hd front)))
    (few : HasFewBindings (moved m (world_by hd front)).lines) where
  -- the run with this event
  abbrev longer : Run hd
  longer = then front (m ∷ [])

  longer_is : world_by hd longer ≡ (moved m (world_by hd front))
  longer_is = more_moves front.moves (m ∷ []) (Words.world_from hd front.start)

  -- a call that is overtaken waits by the journal
  pub overtaken_so_far : (k : ℕ) (n : Node) (t : Parts) (u : Uid) (d : Doing) (x : Steps) →
      at_place k (moved m (world_by hd front)).nodes ≡ Some n → n.live ≡ Some t →
      doing_of u t.coord ≡ Some d → d.now ≡ Calling x → IsOvertaken (IsSaid (moved m (world_by hd front)).lines) x → (e : Event)
      × (waits_for q.accepted q.lines (name d.label) ≡ Some e) × (is_overtaken q.lines (Some e) ≡ true)
  overtaken_so_far k n t u d x there live does now over =
      let o = overtaken_so hd form longer k n t u d x (ap (λ (z : World). at_place k z.nodes) longer_is ∙ there) live does now
      (subst (λ (z : World). IsOvertaken (IsSaid z.lines) x) (sym longer_is) over)
      (subst (λ (z : World). HasFewBindings z.lines) (sym longer_is) few) in
      let a : IsAsked q.accepted q.lines d.label x = subst (IsAt q.accepted q.lines d.label) now
      (ties.at_node hd form q (moved m (world_by hd front)) after.all k n t u d there live does) in
      let g = a.goal in (
        (let z = a.asked in z.event),
        a.waits,
        ap (λ (y : Event). is_overtaken q.lines (Some y)) (g.2 ∙ ap (asks_goal g.0 x.x) o.1)
            ∙ ap (λ ls. is_bound_twice ls x.x) (ties.same_lines hd form q (moved m (world_by hd front)) after.all
            ∙ ap (λ (z : World). z.lines) (sym longer_is)) ∙ o.2,
      )

-- ---- an event that nothing cuts short

module _ (hd : Header) (form : HeaderFits hd) (front : Run hd) (m : Move) (p : Past) (bodies : List Body)
    (s : Kept hd form p (world_by hd front)) (after : Kept hd form (next p (event_of m) bodies) (moved m (world_by hd front)))
    (whole : list_any cuts_short bodies ≡ false) where
  lines_on : (moved m (world_by hd front)).lines ≡ (world_by hd front).lines ++ block (p.count + 1) bodies
  lines_on = sym (ties.same_lines hd form (next p (event_of m) bodies) (moved m (world_by hd front)) after.all)
      ∙ ap (λ ls. ls ++ block (p.count + 1) bodies) (ties.same_lines hd form p (world_by hd front) s.all)

  -- whoever is up stays up
  pub stays_up : AreUp (world_by hd front) → AreUp (moved m (world_by hd front))
  stays_up up = all_stay_up hd front (m ∷ []) up (block (p.count + 1) bodies, lines_on, none_halts (p.count + 1) bodies whole)

  -- and the run goes on
  pub stays_on : (world_by hd front).over ≡ false → (moved m (world_by hd front)).over ≡ false
  stays_on on = after.limits ∙ ap has_limit lines_on ∙ limit_on (world_by hd front).lines (block (p.count + 1) bodies)
      ∙ (λ i. (sym s.limits ∙ on) i || none_limits (p.count + 1) bodies whole i)

-- ---- a quiesce that nothing cuts short

module _ (hd : Header) (form : HeaderFits hd) (front : Run hd) (m : Move) (p : Past) (bodies : List Body)
    (s : Kept hd form p (world_by hd front)) (on : (let w = world_by hd front in w.over) ≡ false)
    (step : joined.Said hd form p (event_of m) bodies)
    (after : Kept hd form (next p (event_of m) bodies) (moved m (world_by hd front)))
    (whole : IsWhole hd p (event_of m) bodies) where
  abbrev w : World
  w = world_by hd front

  abbrev v : World
  v = moved m (world_by hd front)

  abbrev q : Past
  q = next p (event_of m) bodies

  is : event_of m ≡ event.Quiesce
  is = quiesce_is (event_of m) whole.quiesces

  lines_are : v.lines ≡ w.lines ++ block (p.count + 1) bodies
  lines_are = lines_on hd form front m p bodies s after whole.whole

  its : Lines bodies
  its = its_lines hd p bodies (subst (λ x. LinesStep hd p x bodies) is step.1.0.0.0)

  commits : CommitsFit p.start (p.accepted ++ Rattle.arj_model.specs.Past.asked_of p event.Quiesce ∷ []) p.lines (p.count + 1) bodies
  commits = subst (λ x. CommitsStep hd p x bodies) is step.1.0.1.1.0

  kept : (b : Body) → In b bodies → is_lost b ≡ false
  kept = none_lost hd p bodies (subst (λ x. LostStep hd p x bodies) is step.1.0.1.1.1)

  up : AreUp w
  up = ties.all_up hd form p w s.all whole.up

  pub still_up : AreUp v
  still_up = stays_up hd form front m p bodies s after whole.whole up

  pub goes_on : v.over ≡ false
  goes_on = stays_on hd form front m p bodies s after whole.whole on

  -- ---- at its end

  leaves : HasFewBindings (moved m (world_by hd front)).lines → (l : List ℕ) → is_waiting q l ≡ true →
      is_overtaken q.lines (waits_for q.accepted q.lines l) ≡ true
  leaves few l waits = by work.doing.now refl (ties.at_node hd form q v after.all work.number work.node work.parts work.act work.doing
      work.there work.live work.does)
    where
      work : IsAtWork v l
      work = ties.at_work hd form q v after.all l waits

      d : Doing
      d = work.doing

      found : coord_in (at_place work.number v.nodes) ≡ Some (let t = work.parts in t.coord)
      found = ap coord_in work.there ∙ ap (option_map coord_of) work.live

      so : is_waiting_now d.now ≡ true → is_overtaken q.lines (waits_for q.accepted q.lines l) ≡ true
      so waits_now =
          let o = runs_leave_overtaken hd form front m is goes_on still_up work.number (let t = work.parts in t.coord) work.act d
          (ties.node_there hd form q v after.all work.number work.node work.there) found work.does waits_now in
          let e = overtaken_so_far hd form front m q after few work.number work.node work.parts work.act d o.0 work.there work.live
          work.does o.1 o.2 in
          ap (λ k. is_overtaken q.lines (waits_for q.accepted q.lines k)) (sym work.label) ∙ ap (is_overtaken q.lines) e.1 ∙ e.2

      by : (x : Now) → d.now ≡ x → IsAt q.accepted q.lines d.label x → is_overtaken q.lines (waits_for q.accepted q.lines l) ≡ true
      by (Calling x) now at = so (ap is_waiting_now now)
      by (Committing x) now at = so (ap is_waiting_now now)
      by Idle now at =
          let off : is_waiting q l ≡ false = ap (is_waiting q) (sym work.label) ∙ (λ i. is_some (at.0 i) || at.1 i) in
          let no_way : true ≡ false = sym waits ∙ off in absurd (cc no_way)

  -- ---- who waited

  module _ (l : List ℕ) (waits : is_waiting p l ≡ true) where
    work : IsAtWork (world_by hd front) l
    work = ties.at_work hd form p (world_by hd front) s.all l waits

    abbrev d : Doing
    d = work.doing

    found : coord_in (at_place work.number (let z = world_by hd front in z.nodes)) ≡ Some (let t = work.parts in t.coord)
    found = ap coord_in work.there ∙ ap (option_map coord_of) work.live

    stands : IsAt p.accepted p.lines (let z = work.doing in z.label) (let z = work.doing in z.now)
    stands = ties.at_node hd form p (world_by hd front) s.all work.number work.node work.parts work.act work.doing work.there work.live
        work.does

    answer : is_waiting_now (let z = work.doing in z.now) ≡ true → WaitsOvertaken (moved m
        (world_by hd front)) work.number work.act work.doing
        ⊎ HasAnswer work.doing (let z = world_by hd front in z.lines) (let z = moved m (world_by hd front) in z.lines)
    answer now = quiesces_answer_the_rest hd form front m work.number (let t = work.parts in t.coord) work.act work.doing is goes_on
        still_up
        (ties.node_there hd form p (world_by hd front) s.all work.number work.node work.there) found work.does now

    -- a line of the quiesce
    there : (h : HasAnswer work.doing (let z = world_by hd front in z.lines) (let z = moved m (world_by hd front) in z.lines)) →
        In (let z = h.line in z.body) bodies
    there h =
        let same : h.more ≡ block (p.count + 1) bodies = append_cancel_left (let z = world_by hd front in z.lines) h.more
        (block (p.count + 1) bodies) (sym h.are ∙ lines_are) in
        in_block (p.count + 1) bodies h.line (subst (In h.line) same (in_from h.line h.more h.there))

  -- ---- the answers

  never_both : {A : Type 0} (a : Option Event) (e : Event) → a ≡ Some e → a ≡ None → A
  never_both a e one two = let no_way : ◌≡◌ {A = Option Event} (Some e) None = sym one ∙ two in absurd (cc no_way)

  off_on : {A : Type 0} (b : Bool) → b ≡ true → b ≡ false → A
  off_on b on_it off = let no_way : true ≡ false = sym on_it ∙ off in absurd (cc no_way)

  or_true : (b : Bool) → b || true ≡ true
  or_true true = refl
  or_true false = refl

  abbrev Still : List ℕ → Event → Type 0
  Still l e = ((waits_for q.accepted q.lines l ≡ Some e) × (is_overtaken q.lines (Some e) ≡ true))
      ⊎ (list_any (answers_call l) bodies ≡ true)

  calls_so : HasFewBindings (moved m (world_by hd front)).lines → (l : List ℕ) (e : Event) → waits_for p.accepted p.lines l ≡ Some e →
      Still l e
  calls_so few l e is_asked = by (let z = work l waits in let y = z.doing in y.now) refl (stands l waits)
    where
      waits : is_waiting p l ≡ true
      waits = λ i. is_some (is_asked i) || is_committing p.lines l

      k : IsAtWork w l
      k = work l waits

      dk : Doing
      dk = (work l waits).doing

      label : name dk.label ≡ l
      label = (work l waits).label

      none : waits_for p.accepted p.lines (name dk.label) ≡ None → Still l e
      none off = never_both (waits_for p.accepted p.lines l) e is_asked (ap (waits_for p.accepted p.lines) (sym label) ∙ off)

      still : WaitsOvertaken v (work l waits).number (work l waits).act dk → Still l e
      still o =
          let a = at_of (see [] v) (work l waits).number o.still.coord o.still.found in
          let does = ap (doing_of (work l waits).act) a.same ∙ o.still.does in
          let x = overtaken_so_far hd form front m q after few (work l waits).number a.node a.parts
          (work l waits).act o.still.doing o.steps a.found a.live does o.now o.overtaken in
          let same : waits_for q.accepted q.lines l ≡ Some x.0 =
          ap (waits_for q.accepted q.lines) (sym (ap name o.still.label ∙ label)) ∙ x.1 in
          let one : x.0 ≡ e = waits_same p.accepted q.accepted p.lines q.lines l e x.0
          (asks_same p (event_of m) bodies l whole.quiesces) is_asked same in
          inl (same ∙ ap Some one, ap (λ y. is_overtaken q.lines (Some y)) (sym one) ∙ x.2)

      answered : (x : Steps) → dk.now ≡ Calling x → IsAsked p.accepted p.lines dk.label x → HasAnswer dk w.lines v.lines → Still l e
      answered x now a h = inr (⊎_elim by_end by_abort (subst (λ z. IsAnswerTo z dk.label (let y = h.line in y.body)
          ⊎ ((why : Cause) × ((let y = h.line in y.body) ≡ body.Aborted dk.label why) × (is_refusal why ≡ true))) now h.answers))
        where
          b : Body
          b = h.line.body

          by_end : IsAnswerTo (Calling x) dk.label b → list_any (answers_call l) bodies ≡ true
          by_end ended = any_in (answers_call l) bodies b (there l waits h)
              (ap (λ y. answers_call y b) (sym label) ∙ ap (answers_call (name dk.label)) ended.1
              ∙ ended_call x.x x.goal ended.0 dk.label (ap is_lost (sym ended.1) ∙ kept b (there l waits h)))

          by_abort : (why : Cause) × (b ≡ body.Aborted dk.label why) × (is_refusal why ≡ true) → list_any (answers_call l) bodies ≡ true
          by_abort r = off_on (is_committing p.lines (name dk.label))
              (ends_one p.start (p.accepted ++ Rattle.arj_model.specs.Past.asked_of p event.Quiesce ∷ []) p.lines
              (p.count + 1) bodies dk.label r.0
              (refusal_ends dk.label r.0 r.2) its.late commits (subst (λ y. In y bodies) r.1 (there l waits h))) a.rests

      by : (x : Now) → dk.now ≡ x → IsAt p.accepted p.lines dk.label dk.now → Still l e
      by Idle now at = let a : IsAt p.accepted p.lines dk.label Idle = subst (IsAt p.accepted p.lines dk.label) now at in none a.0
      by (Committing x) now at =
          let a : IsAt p.accepted p.lines dk.label (Committing x) = subst (IsAt p.accepted p.lines dk.label) now at in none a.0
      by (Calling x) now at = ⊎_elim still (answered x now (subst (IsAt p.accepted p.lines dk.label) now at))
          (answer l waits (ap is_waiting_now now))

  commits_so : (l : List ℕ) → is_committing p.lines l ≡ true → list_any (answers_commit l) bodies ≡ true
  commits_so l under = by dk.now refl (stands l waits)
    where
      waits : is_waiting p l ≡ true
      waits = (λ i. is_some (waits_for p.accepted p.lines l) || under i) ∙ or_true (is_some (waits_for p.accepted p.lines l))

      dk : Doing
      dk = (work l waits).doing

      label : name dk.label ≡ l
      label = (work l waits).label

      Told : Type 0
      Told = list_any (answers_commit l) bodies ≡ true

      none : is_committing p.lines (name dk.label) ≡ false → Told
      none off = off_on (is_committing p.lines l) under (ap (is_committing p.lines) (sym label) ∙ off)

      still : (x : Rattle.arj_protocol.specs.Commit.Machine) → dk.now ≡ Committing x →
          WaitsOvertaken v (work l waits).number (work l waits).act dk → Told
      still x now o = absurd (subst (λ z. Rattle.arj_promise.specs.Waiting.IsSameWork z (Calling o.steps)) now
          (subst (Rattle.arj_promise.specs.Waiting.IsSameWork dk.now) o.now o.still.same))

      answered : (x : Rattle.arj_protocol.specs.Commit.Machine) → dk.now ≡ Committing x → HasAnswer dk w.lines v.lines → Told
      answered x now h = ⊎_elim by_end by_abort (subst (λ z. IsAnswerTo z dk.label (let y = h.line in y.body)
          ⊎ ((why : Cause) × ((let y = h.line in y.body) ≡ body.Aborted dk.label why) × (is_refusal why ≡ true))) now h.answers)
        where
          b : Body
          b = h.line.body

          by_end : IsAnswerTo (Committing x) dk.label b → Told
          by_end ended = any_in (answers_commit l) bodies b (there l waits h)
              (ap (λ y. answers_commit y b) (sym label) ∙ ap (answers_commit (name dk.label)) ended ∙ same_name (name dk.label))

          by_abort : (why : Cause) × (b ≡ body.Aborted dk.label why) × (is_refusal why ≡ true) → Told
          by_abort r = any_in (answers_commit l) bodies b (there l waits h)
              (ap (λ y. answers_commit y b) (sym label) ∙ ap (answers_commit (name dk.label)) r.1 ∙ refused_commit dk.label r.0 r.2)

      by : (x : Now) → dk.now ≡ x → IsAt p.accepted p.lines dk.label dk.now → Told
      by Idle now at = let a : IsAt p.accepted p.lines dk.label Idle = subst (IsAt p.accepted p.lines dk.label) now at in none a.1
      by (Calling x) now at =
          let a : IsAt p.accepted p.lines dk.label (Calling x) = subst (IsAt p.accepted p.lines dk.label) now at in none a.rests
      by (Committing x) now at = ⊎_elim (still x now) (answered x now) (answer l waits (ap is_waiting_now now))

  -- what world and journal say at its end
  pub says_quiet : EndsQuiet v → SaysQuiet bodies
  says_quiet e = says_last w.lines e.line.0 (p.count + 1) v.event bodies its.some (sym lines_are ∙ e.line.1)

  pub quiesce_answers : HasFewBindings (moved m (world_by hd front)).lines → Answers p (event_of m) bodies
  quiesce_answers few = record {
    calls = calls_so few;
    commits = commits_so;
    leaves = leaves few;
    nothing = its.kept kept;
    calm = λ nobody none. says_quiet (quiesces_idle hd form front m (ties.none_open hd form p w s.all none)
        (ties.nobody hd form p w s.all nobody) is goes_on still_up);
  }
