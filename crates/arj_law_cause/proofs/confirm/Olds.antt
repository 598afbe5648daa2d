-- What a store's answer to a Prepare says, where it refuses a state as too late: of which object that is, that it holds a version above
-- zero, and that the journal counts as many.
use Rattle.arj_law_parts.proofs.Words
use Words.{◌≡◌, ◌≤◌, ◌<◌, ◌∙◌, ◌+◌, ◌==◌, ◌&&◌, ◌||◌, not, ℕ, Bool, true, false, cond, if◌then◌else◌, List, [], ◌∷◌, Option, Some, None}
use Words.{refl}
use Words.{sym, ap}
use Words.{subst, inl, inr, ⊎_elim, arith, nat_tests, nat_lt, is_some, and_parts, eqb-true, option_map, unwrap_or, AllByRecursion, In}
use Words.{uid_is, uid_eq}
use Words.{uid_same, bytes_eq, bytes_eq-Decides, actor, asks, object, Ask, Disk, Head, Header, Line, Message, Node, ObjectState, Parts}
use Words.{Post, Prep}
use Words.{Ready, Old, Already, InDoubt, Seen, Start, Uid, Used, changed_of, either, first_refusal, held_at, holder_of, is_old}
use Words.{prepare_answer}
use Words.{refusal_in, refusal_of, by_holder, state_eq, uid_number, plan_of, Machine, Voting, Preparing, Confirming, Committing, Plan, Kind}
use Words.{are_of_objects, is_object, names_object, nat_le, class_code_of, Pair}
use Words.ask
use Rattle.arj_base.specs.State.{head_of}
use Rattle.arj_promise.specs.Runs.{HeaderFits}
use Rattle.arj_journal.specs.declared.limits.TheConstants.{OBJECTS}
use Rattle.arj_law_disk.specs.machine.Core.{Core}
use Rattle.arj_law_disk.specs.machine.State as disk
use Rattle.arj_law_disk.specs.machine.State.{Below, Known, Packed, State, target, state_for}
use Rattle.arj_law_disk.proofs.machine.Listing.{plain_target}
use Rattle.arj_law_disk_view.proofs.Terms
use Terms.{SeesBoth, SeesStore, SeesCoord}
use Rattle.arj_law_disk_view.proofs.view.{DecideWalks.confirming_of, HeardWalks.preparing_of}
use Rattle.arj_law_disk_view.specs.view.Pairs.{packed}
use Rattle.arj_law_disk_view.specs.view.Plans.{plan_at, plan_by, used_at}
use Rattle.arj_law_disk_view.specs.view.Stores.{ClaimsPrepare}
use Rattle.arj_law_disk_view.specs.view.Sees as sees
use Rattle.arj_law_lock_view.proofs.Terms.{same_number, some_is}
use Rattle.arj_law_lock_view.specs.facts.Entries.{HasObject}
use Rattle.arj_law_parts.specs.moves.Seen as seen
use Rattle.arj_law_promise.proofs.meant.Requests.{meant_keep}
use Rattle.arj_law_promise.specs.meant.Meant.{AskFits, MeantAreKnown}
use Rattle.arj_law_serial.proofs.joint.{Clean.object_some, Joining.among_of}
use Rattle.arj_law_serial.proofs.order.Contents.{one_state}
use Rattle.arj_model.specs.Actions.{Act, acts, is_over}
use Rattle.arj_model.specs.Last.{count_tops, object_line, writes_of}
use Rattle.arj_law_cause.proofs.confirm.{Called.BasedCalled, Called.called_keep, Called.is_called, Joined.IsEarly, Joined.IsSeenSo}
use Rattle.arj_law_cause.proofs.confirm.{Joined.seen_so}
use Rattle.arj_law_cause.proofs.confirm.{Opened.IsAtCommit, Opened.IsLeft, Opened.at_commit, Opened.same_there, Reached.Reached}
use Rattle.arj_law_cause.proofs.confirm.{Reached.reached_has}
use Rattle.arj_law_cause.proofs.confirm.{Versions.held_low, Versions.zero_is_one}
use Rattle.arj_law_cause.proofs.votes.Written.{changed_version}

-- ---- what is said

-- The Prepare has a state of the object; the store holds one of this version, above zero, and the journal counts as many, from where the
-- run began.
pub record IsTooLate (st : Start) (states : List ObjectState) (y v : ℕ) (before : List Line) : Type 0 where
  pub state : ObjectState
  pub among : In state states
  pub of : state.uid ≡ object y
  pub some : 1 ≤ v
  pub count : v ≤ (let m = st.marks.states y in m.version) + count_tops (writes_of before y)

-- so it is while the action that asks is open, by lines that are early
abbrev pub says_late : Start → Head → List ObjectState → ℕ → ℕ → List Line → Type 0
says_late st h states y v before =
    IsEarly before → (a : Act) → In a (acts before) → a.uid ≡ actor h.path → is_over before a ≡ false → IsTooLate st states y v before

-- ---- the refusal

-- the first state that is too late
pub record IsRefusal (act : Uid) (d : Pair) (ss : List ObjectState) (w : Uid) (v : ℕ) : Type 0 where
  pub state : ObjectState
  pub among : In state ss
  pub of : state.uid ≡ w
  pub held : ObjectState
  pub there : held_at state.uid d ≡ Some held
  pub old : is_old state held ≡ true
  pub version : held.version ≡ v

abbrev old_uid : Option Prep → Uid
old_uid (Some (Old u n)) = u
old_uid _ = record { node = 0; inc = 0; num = 0 }

abbrev old_version : Option Prep → ℕ
old_version (Some (Old u n)) = n
old_version _ = 0

old_found : (act : Uid) (d : Pair) (ss : List ObjectState) (w : Uid) (v : ℕ) → first_refusal act d ss ≡ Some (Old w v) →
    IsRefusal act d ss w v
old_found act d [] w v is = absurd (cc is)
old_found act d (s ∷ ss) w v is = by (refusal_in act d s) refl is (λ more. old_found act d ss w v more)
  where
    here : (o : Option ObjectState) → held_at s.uid d ≡ o → (h : Option Uid) → refusal_of act s o h ≡ Some (Old w v) →
        IsRefusal act d (s ∷ ss) w v
    here None at None e = absurd (cc e)
    here None at (Some u) e = absurd (cc e)
    here (Some held) at h e = one (uid_eq held.writer act) (is_old s held) refl h e
      where
        one : (x y : Bool) → is_old s held ≡ y → (o : Option Uid) →
            (if x then Some (Already s.uid) else (if y then Some (Old s.uid held.version) else by_holder s o)) ≡ Some (Old w v) →
            IsRefusal act d (s ∷ ss) w v
        one true y f o e = absurd (cc e)
        one false true f o e = record {
          state = s;
          among = inl refl;
          of = ap old_uid e;
          held = held;
          there = at;
          old = f;
          version = ap old_version e;
        }
        one false false f None e = absurd (cc e)
        one false false f (Some u) e = absurd (cc e)

    by : (o : Option Prep) → refusal_in act d s ≡ o → either o (first_refusal act d ss) ≡ Some (Old w v) →
        (first_refusal act d ss ≡ Some (Old w v) → IsRefusal act d ss w v) → IsRefusal act d (s ∷ ss) w v
    by None e h ih = let z = ih h in record {
      state = z.state;
      among = inr z.among;
      of = z.of;
      held = z.held;
      there = z.there;
      old = z.old;
      version = z.version;
    }
    by (Some b) e h ih = here (held_at s.uid d) refl (holder_of s.uid d) (e ∙ h)

answer_first : (o : Option Prep) (w : Uid) (v : ℕ) → unwrap_or o Ready ≡ Old w v → o ≡ Some (Old w v)
answer_first None w v e = absurd (cc e)
answer_first (Some b) w v e = ap Some e

-- a state of an object is of its number
of_objects : (ss : List ObjectState) → are_of_objects ss ≡ true → (s : ObjectState) → In s ss →
    s.uid ≡ object (let u = s.uid in u.num)
of_objects [] all s i = absurd i
of_objects (t ∷ ts) all s (inl same) = subst (λ (z : ObjectState). z.uid ≡ object (let u = z.uid in u.num)) same
    (uid_is t.uid (object (let u = t.uid in u.num)) (and_parts (uid_eq t.uid (object (let u = t.uid in u.num)))
    (nat_le 1 (let u = t.uid in u.num) && nat_le (let u = t.uid in u.num) OBJECTS)
    (and_parts (is_object t.uid) (not (names_object t.uid ts) && are_of_objects ts) all).0).0)
of_objects (t ∷ ts) all s (inr more) = of_objects ts (and_parts (not (names_object t.uid ts)) (are_of_objects ts)
    (and_parts (is_object t.uid) (not (names_object t.uid ts) && are_of_objects ts) all).1).1 s more

pub each_has : (hd : Header) (ss : List ObjectState) → AllByRecursion (λ (s : ObjectState). HasObject hd (let u = s.uid in u.num)) ss →
    (s : ObjectState) → In s ss → HasObject hd (let u = s.uid in u.num)
each_has hd [] all s i = absurd i
each_has hd (t ∷ ts) all s (inl same) = subst (λ (z : ObjectState). HasObject hd (let u = z.uid in u.num)) same all.0
each_has hd (t ∷ ts) all s (inr more) = each_has hd ts all.1 s more

-- a state is the same as itself
same_state : (s : ObjectState) → state_eq s s ≡ true
same_state s = λ i. uid_same s.uid i && (same_number (head_of s.format) i && (same_number (class_code_of s.class) i
    && (same_number s.version i && (uid_same s.writer i && (bytes_eq-Decides s.payload s.payload).1 refl i))))

-- ---- where a store serves it

module _ (hd : Header) (form : HeaderFits hd) (Z : Seen) (reached : Reached hd Z) (k : ℕ) (d : Disk) (t : Parts)
    (here : Z.nodes k ≡ Some (record { number = k; disk = d; live = Some t })) (from : ℕ) (m : Message)
    (sent : seen.In (record { from = from; to = k; message = m }) Z.sent) (h : Head) (states : List ObjectState)
    (asking : asks m ≡ Some (h, ask.Prepare states)) (w : Uid) (v : ℕ) (is : prepare_answer (actor h.path) states d.store ≡ Old w v) where
  pub refusal : IsRefusal (actor h.path) d.store states w v
  refusal = old_found (actor h.path) d.store states w v (answer_first (first_refusal (actor h.path) d.store states) w v is)

  st : ObjectState
  st = refusal.state

  fits : AskFits hd (ask.Prepare states)
  fits = let known : MeantAreKnown hd Z = reached_has hd (MeantAreKnown hd) (meant_keep hd form) Z reached in
      known.1 (record { from = from; to = k; message = m }) h (ask.Prepare states) sent asking

  pub of : refusal.state.uid ≡ object w.num
  of = of_objects states fits.0 refusal.state refusal.among ∙ ap (λ (u : Uid). object u.num) refusal.of

  pub line : is_some (object_line hd w.num) ≡ true
  line = object_some hd w.num (subst (λ (u : Uid). HasObject hd u.num) refusal.of
      (each_has hd states fits.1 refusal.state refusal.among))

  called : is_called Z.lines (actor h.path)
  called = (reached_has hd BasedCalled (called_keep hd) Z reached).1 (record { from = from; to = k; message = m }) h (ask.Prepare states)
      sent asking

  pub held_there : held_at (object w.num) d.store ≡ Some refusal.held
  held_there = ap (λ u. held_at u d.store) (sym of) ∙ refusal.there

  module _ (early : IsEarly Z.lines) (a : Act) (began : In a (acts Z.lines)) (its : a.uid ≡ actor h.path)
      (opened : is_over Z.lines a ≡ false) where
    pub c : IsAtCommit Z a.uid
    c = at_commit hd Z reached a began opened (subst (is_called Z.lines) (sym its) called)

    q : IsSeenSo hd w.num Z
    q = seen_so hd w.num form line Z reached early

    both : SeesBoth w.num q.tops q.office (seen.with_sent q.sent Z)
    both = let z = q.seen in z.both

    D : State
    D = let A = q.office in let W = A.world in W.disk

    claims : ClaimsPrepare w.num (let A = q.office in A.world) (actor h.path) k states
    claims = subst (sees.ClaimsAsked w.num q.tops (let A = q.office in A.world) Z.lines from k m) asking (let z = both.disks in
        z.posts (record { from = from; to = k; message = m }) (q.within (record { from = from; to = k; message = m }) sent))

    core : Core (let A = q.office in let W = A.world in W.disk)
    core = let z = both.disks in let v = z.whole in v.core

    store : SeesStore w.num k d.store (let A = q.office in let W = A.world in W.disk)
    store = let z = both.disks in z.stores k (record { number = k; disk = d; live = Some t }) here

    held_so : (let A = q.office in let W = A.world in W.disk.held k) ≡ Some (packed refusal.held)
    held_so = (let p = store.pair in sym p.held_is) ∙ ap (option_map packed) held_there

    plan_says : (target (let A = q.office in let W = A.world in W.disk.plan (uid_number (actor h.path))) k ≡ true)
        × (packed refusal.state ≡ state_for (let A = q.office in let W = A.world in W.disk.plan (uid_number (actor h.path))))
    plan_says = let p = claims.planned in p.named refusal.state (among_of refusal.state states refusal.among, of)

    begun : (let A = q.office in let W = A.world in W.disk.begun (uid_number (actor h.path))) ≡ true
    begun = let p = claims.planned in p.begun

    started : (let A = q.office in let W = A.world in W.disk.begun (uid_number a.uid)) ≡ true
    started = ap (λ (u : Uid). let A = q.office in let W = A.world in W.disk.begun (uid_number u)) its ∙ begun

    top : (let k = q.tops in k.is_top (uid_number a.uid)) ≡ true
    top = (let z = both.disks in z.kinds (uid_number a.uid) started).0

    coord : SeesCoord w.num (let u = a.uid in u.node) (let n = c.node in let d = n.disk in d.inc) q.tops (let t = c.parts in t.coord)
        (let A = q.office in let W = A.world in W.disk)
    coord = let z = both.disks in z.coords (let u = a.uid in u.node) c.node c.parts c.there c.live

    working : sees.Works w.num q.tops (let A = q.office in let W = A.world in W.disk) (uid_number a.uid) (let b = c.branch in b.kind)
        (let q = c.doing in q.now)
    working = coord.working a.uid c.branch c.doing c.found c.unended c.does

    -- it is past its votes
    pub left : IsLeft c.machine
    left = by c.machine c.now
      where
        by : (k : Machine) → (let q = c.doing in q.now) ≡ Committing k → IsLeft k
        by (Preparing p left) now = inl (p, left, refl)
        by (Confirming p) now = inr (p, refl)
        by (Voting p left) now =
            let idle = voting_idle (let b = c.branch in b.kind) (let q = c.doing in q.now) now working in
            let no_way : true ≡ false = sym (ap disk.is_idle idle) ∙ (let f = core.fresh in f.begun (uid_number a.uid) started) in
            absurd (cc no_way)
          where
            off : (let k = q.tops in k.is_top (uid_number a.uid)) ≡ false → {A : Type 0} → A
            off none = let no_way : true ≡ false = sym top ∙ none in absurd (cc no_way)

            voting_idle : (b : Kind) (n : Words.Now) → n ≡ Committing (Voting p left) →
                sees.Works w.num q.tops (let A = q.office in let W = A.world in W.disk) (uid_number a.uid) b n →
                (let A = q.office in let W = A.world in W.disk.stage (uid_number a.uid)) ≡ disk.Idle
            voting_idle Words.kind.Nested n e z = off z
            voting_idle Words.kind.Serial n e z = off z.0
            voting_idle Words.kind.Top n e z =
                subst (sees.WorksBy w.num (let A = q.office in let W = A.world in W.disk) (uid_number a.uid)) e z.1
            voting_idle Words.kind.Independent n e z =
                subst (sees.WorksBy w.num (let A = q.office in let W = A.world in W.disk) (uid_number a.uid)) e z.1
            voting_idle Words.kind.Constituent n e z =
                subst (sees.WorksBy w.num (let A = q.office in let W = A.world in W.disk) (uid_number a.uid)) e z.1

    -- its plan is the machine's
    plan_is : (let A = q.office in let W = A.world in W.disk.plan (uid_number (actor h.path))) ≡ plan_at w.num (plan_of c.machine)
    plan_is = ap (λ (u : Uid). let A = q.office in let W = A.world in W.disk.plan (uid_number u)) (sym its) ∙ by left
      where
        by : IsLeft c.machine → (let A = q.office in let W = A.world in W.disk.plan (uid_number a.uid)) ≡ plan_at w.num (plan_of c.machine)
        by (inl m) = (let z = preparing_of w.num q.tops (let A = q.office in let W = A.world in W.disk) (uid_number a.uid)
            (let b = c.branch in b.kind) (let q = c.doing in q.now) m.0 m.1 top (c.now ∙ ap Committing m.2) working in z.plan)
            ∙ ap (λ k. plan_at w.num (plan_of k)) (sym m.2)
        by (inr m) = (let z = confirming_of w.num q.tops (let A = q.office in let W = A.world in W.disk) (uid_number a.uid)
            (let b = c.branch in b.kind) (let q = c.doing in q.now) m.0 top (c.now ∙ ap Committing m.1) working in z.plan)
            ∙ ap (λ k. plan_at w.num (plan_of k)) (sym m.1)

    -- the store is one of its targets, and holds no state below what it sends
    pub goal : target (plan_at w.num (plan_of c.machine)) k ≡ true
    goal = ap (λ p. target p k) (sym plan_is) ∙ plan_says.0

    pub unbelow : Below (packed refusal.held) (state_for (plan_at w.num (plan_of c.machine))) → ⊥
    unbelow below = by (subst (Below (packed refusal.held)) (sym (plan_says.1 ∙ ap state_for plan_is)) below)
      where
        older : (x y : ℕ) (b : Bool) → (nat_lt x y || ((x == y) && b)) ≡ true → y < x → ⊥
        older x y b on less = absurd (by_lt (nat_lt x y) refl on)
          where
            by_lt : (z : Bool) → nat_lt x y ≡ z → (z || ((x == y) && b)) ≡ true → ⊥
            by_lt true e f = grind (arith, nat_tests, e, less)
            by_lt false e f = let p = and_parts (x == y) b f in let same = eqb-true x y p.0 in omega (arith, same, less)

        alike : (x y : ℕ) (b : Bool) → (nat_lt x y || ((x == y) && b)) ≡ true → y ≡ x → b ≡ true
        alike x y b on same = by_lt (nat_lt x y) refl on
          where
            by_lt : (z : Bool) → nat_lt x y ≡ z → (z || ((x == y) && b)) ≡ true → b ≡ true
            by_lt true e f = absurd (grind (arith, nat_tests, e, same))
            by_lt false e f = (and_parts (x == y) b f).1

        by : Below (packed refusal.held) (packed refusal.state) → ⊥
        by (inl less) = older refusal.state.version refusal.held.version (not (state_eq refusal.state refusal.held)) refusal.old less
        by (inr one) =
            let other = alike refusal.state.version refusal.held.version (not (state_eq refusal.state refusal.held)) refusal.old
            (ap (λ (p : Packed). p.version) one) in
            let same : refusal.state ≡ refusal.held = one_state refusal.state refusal.held (sym one)
            (of ∙ sym (let p = store.pair in p.keyed (object w.num) refusal.held held_there)) in
            let no_way : false ≡ true = sym (ap not (ap (state_eq refusal.state) (sym same) ∙ same_state refusal.state)) ∙ other in
            cc no_way

    -- a changed state is above zero
    above_zero : (st : ObjectState) → changed_of w.num (plan_of c.machine) ≡ Some st → 1 ≤ st.version
    above_zero st changed = changed_version hd w.num form line (let u = a.uid in u.node) (let n = c.node in n.disk) c.parts Z
        (subst (Reached hd) (sym (same_there Z (let u = a.uid in u.node) c.node c.parts c.there c.number c.live)) reached) early
        a.uid c.doing c.machine c.does c.now st changed

    -- the version that the store holds isn't zero
    not_zero : v ≡ 0 → ⊥
    not_zero zero = by (let A = q.office in let W = A.world in W.disk.plan (uid_number (actor h.path))).writes refl
      where
        held_zero : refusal.held.version ≡ 0
        held_zero = refusal.version ∙ zero

        both_parts : (x y : ℕ) (b : Bool) → (nat_lt x y || ((x == y) && b)) ≡ true → y ≡ 0 → (x ≡ 0) × (b ≡ true)
        both_parts x y b on none = by_lt (nat_lt x y) refl on
          where
            by_lt : (z : Bool) → nat_lt x y ≡ z → (z || ((x == y) && b)) ≡ true → (x ≡ 0) × (b ≡ true)
            by_lt true e f = absurd (grind (arith, nat_tests, e, none))
            by_lt false e f = let p = and_parts (x == y) b f in (eqb-true x y p.0 ∙ none, p.1)

        its_parts : (refusal.state.version ≡ 0) × (not (state_eq refusal.state refusal.held) ≡ true)
        its_parts = both_parts refusal.state.version refusal.held.version (not (state_eq refusal.state refusal.held)) refusal.old held_zero

        core_history : disk.Known (let A = q.office in let W = A.world in W.disk) (packed refusal.held)
        core_history = let z = core.history in z.held k (packed refusal.held) held_so

        same_as : Known (let A = q.office in let W = A.world in W.disk) (packed refusal.state) → ⊥
        same_as known =
            let one : packed refusal.state ≡ packed refusal.held = zero_is_one (let A = q.office in let W = A.world in W.disk)
            (let z = core in z.history) (packed refusal.state) (packed refusal.held) known core_history its_parts.0 held_zero in
            let same : refusal.state ≡ refusal.held = one_state refusal.state refusal.held one
            (of ∙ sym (let p = store.pair in p.keyed (object w.num) refusal.held held_there)) in
            let no_way : false ≡ true = sym (ap not (ap (state_eq refusal.state) (sym same) ∙ same_state refusal.state)) ∙ its_parts.1 in
            cc no_way

        writes_of_plan : (o : Option Used) (e : Option ObjectState) (g : Packed) →
            (let p = plan_by o e in p.writes) ≡ Some g → (s : ObjectState) × (e ≡ Some s) × (packed s ≡ g)
        writes_of_plan None e g none = absurd (cc none)
        writes_of_plan (Some r) None g none = absurd (cc none)
        writes_of_plan (Some r) (Some s) g some = (s, refl, some_is some)

        by : (o : Option Packed) → (let A = q.office in let W = A.world in W.disk.plan (uid_number (actor h.path))).writes ≡ o → ⊥
        by None none = same_as (subst (Known (let A = q.office in let W = A.world in W.disk)) (sym (plan_says.1
            ∙ ap (λ (o : Option Packed). unwrap_or o
            (let A = q.office in let W = A.world in let p = W.disk.plan (uid_number (actor h.path)) in p.loaded)) none))
            (let z = core.history in z.loaded (uid_number (actor h.path)) k begun
            (plain_target (let A = q.office in let W = A.world in W.disk.plan (uid_number (actor h.path))) k none plan_says.0)))
        by (Some g) some =
            let s = writes_of_plan (used_at w.num (let p = plan_of c.machine in p.used)) (changed_of w.num (plan_of c.machine)) g
            (ap (λ (p : disk.Plan). p.writes) (sym plan_is) ∙ some) in
            let low = above_zero s.0 s.1 in
            let version : refusal.state.version ≡ (let z = s.0 in z.version)
            = ap (λ (y : Packed). y.version) (plan_says.1 ∙ ap (λ (o : Option Packed). unwrap_or o
            (let A = q.office in let W = A.world in let p = W.disk.plan (uid_number (actor h.path)) in p.loaded)) some ∙ sym s.2) in
            high refusal.state.version (let z = s.0 in z.version) its_parts.0 version low
          where
            high : (x y : ℕ) → x ≡ 0 → x ≡ y → 1 ≤ y → ⊥
            high x y none same one = omega (arith, none, same, one)

    pub too_late : IsTooLate Z.start states w.num v Z.lines
    too_late = record {
      state = refusal.state;
      among = refusal.among;
      of = of;
      some = positive v not_zero;
      count = subst (λ n. n ≤ (let m = Z.start.marks.states w.num in m.version) + count_tops (writes_of Z.lines w.num)) refusal.version
          (held_low hd w.num form line Z reached early k (record { number = k; disk = d; live = Some t }) refusal.held here held_there);
    }
      where
        positive : (n : ℕ) → (n ≡ 0 → ⊥) → 1 ≤ n
        positive Words.zero off = absurd (off refl)
        positive (Words.suc n) off = omega arith
