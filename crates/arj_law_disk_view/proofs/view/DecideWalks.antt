-- A decision, walked through at its coordinator.
use Rattle.arj_law_parts.proofs.Words
use Words.{◌≡◌, ◌≢◌, ◌⊎◌, ℕ, ◌==◌, ◌||◌, List, [], ◌∷◌, ◌++◌, Bool, true, false, Option, Some, None, refl, sym, ◌∙◌, ap, subst, inl, inr}
use Words.{⊎_elim, map, ⊤, if◌then◌else◌, not, is_some, append_assoc, AllByRecursion, Uid, End, Kind, ObjectState, object, Reply}
use Words.{moved_commit, Confirming, participants, has_record, Coord, Doing, Now, Idle, Committing, Root, doing_of, Disk, Effect, Do}
use Words.{PutIntent, Intent, Before, After, InPart, Stop, stopped, says, say_for, decided, decided_told, tell, record_work, Parts}
use Words.{with_coord, at_uid, put_uid, uid_number, AreAll, Node, root_of, is_open, is_open_branch, numbered, Post, Seen}
use Words.body
use Words.confirmed
use Words.ending
use Words.kind
use Words.message
use Words.commit
use Words.order
use Rattle.arj_law_disk_view.proofs.Terms
use Terms.{Core, World, Allowed, after, State, Hold, Packed, Known, Listed, IsExcused, naming, is_gone, undecided, target, open_by}
use Terms.{last_entry, effective_by, In, has, put, never, never_some, some_is, put_same, put_other, test_same, up, said, posted, Walks}
use Terms.{Stops, Up, halted, SeesConfirming, SeesRecords, Stills, Among, plan_at, ClaimsReply, may_note, IsOneChange, Kinds, SeesDisks}
use Terms.{SeesCoord, SeesNotes, IsSettled, KnowsRoot, KnowsNow, IsLater, is_awaited_by, IsSeenByDisks, Works, WorksBy, WaitsForNaming}
use Terms.{Decides}
use Terms.machine
use Terms.mail
use Terms.disk
use Rattle.arj_law_disk_view.proofs.view
use view.{Halts.stops_open, Later.effects_are_later, Notes.notes_later, Planned.has_same}
use view.DecidedCoord.{decided_tree, decided_doings, decided_tellings, decided_telling, decided_doing, decided_roots}
use view.DecidingSteps.{takes_part, record_is_written, decision_is_made, commits_are_undecided, bare_commit_ends, decision_tells}
use view.Ended.{HasEnded, ended_coord, ended_noted, calm_seen}
use view.Frames.{node_here, coord_same, says_seen, posts_seen, sends_seen}
use view.HeardWalks.{is_say, say_walk}
use view.TopFrames.{branch_at, apart_number}
use Rattle.arj_law_disk_view.specs.view.Sees.{ConfirmedIsHeard}
use Rattle.arj_law_disk_view.proofs.view.Keys as keys

-- an open top that waits for naming
pub confirming_of : (x : ℕ) (tops : Kinds) (S : State) (t : ℕ) (k : Kind) (now : Now) (p : commit.Plan) → tops.is_top t ≡ true →
    now ≡ Committing (Confirming p) → Works x tops S t k now → SeesConfirming x S t p
confirming_of x tops S t kind.Nested now p top is w = absurd (never top w)
confirming_of x tops S t kind.Serial now p top is w = absurd (never top w.0)
confirming_of x tops S t kind.Top now p top is w = subst (λ n. WorksBy x S t n) is w.1
confirming_of x tops S t kind.Independent now p top is w = subst (λ n. WorksBy x S t n) is w.1
confirming_of x tops S t kind.Constituent now p top is w = subst (λ n. WorksBy x S t n) is w.1

-- ---- what a coordinator has taken note of

-- a record of a top that is open still
put_noted : (x : ℕ) (W : World) (intents : List (Uid × Intent)) (c : Coord) (u : Uid) (i : Intent) → is_open u c.tree ≡ true →
    SeesNotes x intents c W → SeesNotes x (put_uid u i intents) c W
put_noted x W intents c u i opened n = record {
  settled = λ w j there. ⊎_elim (λ same. inl (ap (λ a. is_open a c.tree) same.0 ∙ opened)) (λ other. n.settled w j other.1)
      (keys.put_cases w u i j intents there);
  taken = n.taken;
  roots = n.roots;
  plans = n.plans;
}

-- a confirmed top that wrote has sent its state to a store
writers_have_targets : (S : State) (t : ℕ) → Core S → S.conf t ≡ true → undecided S t ≡ true → is_some (S.plan t).writes ≡ true →
    (s : ℕ) × (target (S.plan t) s ≡ true)
writers_have_targets S t core conf open_yet writes = by S.entry_pend refl
  where
    got_target : (s : ℕ) → S.got t s ≡ true → (s : ℕ) × (target (S.plan t) s ≡ true)
    got_target s got = (s, core.coordinators.got_target t s got)

    by : (o : Option Hold) → S.entry_pend ≡ o → (s : ℕ) × (target (S.plan t) s ≡ true)
    by None is = ⊎_elim (λ got. got_target core.pending.held.0 got) (λ (x : IsExcused S t core.pending.held.0).
        absurd (never_some x.there is)) (core.covered.stores t core.pending.held.0 conf (inl open_yet) writes (inl core.pending.held.1))
    by (Some h) is = listed core.pending.held.0 (inl core.pending.held.1)
      where
        new_one : (s : ℕ) × (has s h.new.content ≡ true)
        new_one = core.pending.stores h is

        excused : (s : ℕ) → IsExcused S t s → (h.top ≡ t) ⊎ (disk.decided S h.top ≡ true)
        excused s x = let same : x.by_entry ≡ h = some_is x.there is in
            subst (λ (g : Hold). (g.top ≡ t) ⊎ (disk.decided S g.top ≡ true)) same (⊎_elim (λ a. inl a) (λ b. inr b.0) x.whose)

        -- a listed store of the entry that is prepared
        of_new : Listed S new_one.0 → (s : ℕ) × (target (S.plan t) s ≡ true)
        of_new on = ⊎_elim (λ got. got_target new_one.0 got) (λ (x : IsExcused S t new_one.0).
            absurd (never new_one.1 (ap (λ (g : Hold). has new_one.0 g.new.content) (sym (some_is x.there is)) ∙ x.lacks)))
            (core.covered.stores t new_one.0 conf (inl open_yet) writes on)

        last_is : disk.decided S h.top ≡ true → h.new ≡ last_entry S
        last_is done = sym (ap (λ b. if b then h.new else S.entry) done)
            ∙ ap (λ o. effective_by (disk.decided S) (λ e. e) o S.entry) (sym is) ∙ core.effective.entry

        by_whose : (h.top ≡ t) ⊎ (disk.decided S h.top ≡ true) → (has new_one.0 S.entry.content ≡ true) ⊎ (S.got h.top new_one.0 ≡ true) →
            (s : ℕ) × (target (S.plan t) s ≡ true)
        by_whose w (inl on) = of_new (inl on)
        by_whose (inl own) (inr got) = got_target new_one.0 (ap (λ z. S.got z new_one.0) (sym own) ∙ got)
        by_whose (inr done) (inr got) = of_new (inr (ap (λ (e : Packed). has new_one.0 e.content) (sym (last_is done)) ∙ new_one.1))

        listed : (s : ℕ) → Listed S s → (s : ℕ) × (target (S.plan t) s ≡ true)
        listed s on = ⊎_elim (λ got. got_target s got) (λ x. by_whose (excused s x) (core.pending.new h new_one.0 is new_one.1))
            (core.covered.stores t s conf (inl open_yet) writes on)

-- naming takes part where it has confirmed
naming_takes_part : (p : commit.Plan) → p.confirmed ≡ true → order.has (participants p) naming ≡ true
naming_takes_part p confirmed =
    sym (has_same naming (participants p)) ∙ takes_part p naming (inr (ap (λ b. order.has (if b then 1 ∷ [] else []) naming) confirmed))

-- ---- who is told

module _ (x : ℕ) (tops : Kinds) (e k : ℕ) (d : Disk) (v : Parts) (u root : Uid) (p : commit.Plan)
    (top : tops.is_top (uid_number u) ≡ true) where
  abbrev P : Seen → Type 0
  P = IsSeenByDisks x tops

  -- with a record
  record Recorded (S : State) : Type 0 where
    done : disk.decided S (uid_number u) ≡ true
    there : S.intent (uid_number u) ≡ Some (participants p)

  recorded_told : has_record p ≡ true → (ns : List ℕ) (N : Seen) (V : World) → Recorded V.disk → SeesDisks x tops V (up k d v N) →
      Walks P e k (map (decided_told root u p) ns) (Up P k v) d N
  recorded_told has [] N V r s = (V, s)
  recorded_told has (n ∷ ns) N V r s = by (order.has (participants p) n) refl (recorded_told has ns)
    where
      by : (b : Bool) → order.has (participants p) n ≡ b → ((L : Seen) (U : World) → Recorded U.disk → SeesDisks x tops U (up k d v L) →
          Walks P e k (map (decided_told root u p) ns) (Up P k v) d L)
          → Walks P e k ((if b then tell root (has_record p) ((u, ending.Commit) ∷ []) n else tell root false ((u, ending.Abort) ∷ []) n)
          ∷ map (decided_told root u p) ns) (Up P k v) d N
      by true is ih = λ more quiet.
          let m : mail.Message = mail.ToldCommit (uid_number u) n in
          let U : World = after V (machine.Send m) in
          let q : Post = record {
            from = k;
            to = n;
            message = message.Told (record { root = root; ack = has_record p; ends = (u, ending.Commit) ∷ [] });
          } in
          ih (said e more (posted q N)) U (record { done = r.done; there = r.there })
          (says_seen x tops U (up k d v (posted q N)) (numbered e more)
          (posts_seen x tops U (up k d v N) q (inl (inl (inl refl)), λ a. inl refl) (sends_seen x tops V (up k d v N) m r.done refl s)))
      by false is ih = λ more quiet.
          let m : mail.Message = mail.ToldAbort (uid_number u) n in
          let U : World = after V (machine.Send m) in
          let q : Post =
          record { from = k; to = n; message = message.Told (record { root = root; ack = false; ends = (u, ending.Abort) ∷ [] }) } in
          ih (said e more (posted q N)) U (record { done = r.done; there = r.there })
          (says_seen x tops U (up k d v (posted q N)) (numbered e more)
          (posts_seen x tops U (up k d v N) q (inl (top, inl (inl refl)), λ a. absurd (cc a))
          (sends_seen x tops V (up k d v N) m ((decision_tells V u n (participants p) s.whole.core r.done r.there).1 is) refl s)))

  -- without one
  bare_told : has_record p ≡ false → p.confirmed ≡ true → (ns : List ℕ) (N : Seen) (V : World) → V.disk.bare (uid_number u) ≡ true →
      SeesDisks x tops V (up k d v N) → Walks P e k (map (decided_told root u p) ns) (Up P k v) d N
  bare_told has_not confirmed [] N V r s = (V, s)
  bare_told has_not confirmed (n ∷ ns) N V r s = by (order.has (participants p) n) refl (bare_told has_not confirmed ns)
    where
      names_part : order.has (participants p) naming ≡ true
      names_part = naming_takes_part p confirmed

      by : (b : Bool) → order.has (participants p) n ≡ b → ((L : Seen) (U : World) → U.disk.bare (uid_number u) ≡ true →
          SeesDisks x tops U (up k d v L) → Walks P e k (map (decided_told root u p) ns) (Up P k v) d L)
          → Walks P e k ((if b then tell root (has_record p) ((u, ending.Commit) ∷ []) n else tell root false ((u, ending.Abort) ∷ []) n)
          ∷ map (decided_told root u p) ns) (Up P k v) d N
      by true is ih = λ more quiet.
          let q : Post = record {
            from = k;
            to = n;
            message = message.Told (record { root = root; ack = has_record p; ends = (u, ending.Commit) ∷ [] });
          } in
          ih (said e more (posted q N)) V r (says_seen x tops V (up k d v (posted q N)) (numbered e more)
          (posts_seen x tops V (up k d v N) q (inl (inr r), λ a. absurd (never a has_not)) s))
      by false is ih = λ more quiet.
          let q : Post =
          record { from = k; to = n; message = message.Told (record { root = root; ack = false; ends = (u, ending.Abort) ∷ [] }) } in
          ih (said e more (posted q N)) V r (says_seen x tops V (up k d v (posted q N)) (numbered e more)
          (posts_seen x tops V (up k d v N) q
          (inl (top, inr (r, λ same. never names_part (ap (λ j. order.has (participants p) j) (sym same) ∙ is))), λ a. absurd (cc a))
          s))

-- ---- the decision

module _ (x : ℕ) (tops : Kinds) (e k : ℕ) (d : Disk) (t : Parts) (act : Uid) (p0 : commit.Plan) (M : Seen)
    (waits : WaitsForNaming t d.intents act p0) (top : tops.is_top (uid_number act) ≡ true)
    (note : may_note tops.walk (Decides (uid_number act)) ≡ true) (W : World) (sees : SeesDisks x tops W (up k d t M))
    (answered : In (mail.Confirmed (uid_number act)) W.sent) where
  abbrev Q : Seen → Type 0
  Q = IsSeenByDisks x tops

  abbrev p : commit.Plan
  p = record p0 { confirmed = true }

  abbrev C : Coord
  C = decided act (record p0 { confirmed = true }) t.coord

  mine : SeesCoord x k d.inc tops t.coord W.disk
  mine =
      sees.coords k (record { number = k; disk = d; live = Some t }) t (node_here M k (record { number = k; disk = d; live = Some t })) refl

  confirming : SeesConfirming x W.disk (uid_number act) (record p0 { confirmed = true })
  confirming = let h = confirming_of x tops W.disk (uid_number act) waits.branch.kind waits.doing.now p0 top waits.now
      (mine.working act waits.branch waits.doing waits.found waits.unended waits.at_work) in
      record {
        stage = h.stage;
        begun = h.begun;
        plan = h.plan;
        tidy = record { apart = h.tidy.apart; once = h.tidy.once; distinct = h.tidy.distinct; loaded = h.tidy.loaded; of = h.tidy.of };
        got = h.got;
        marks = h.marks;
      }

  here : act.node ≡ k
  here = (branch_at act t.coord waits.branch waits.found).0 ∙ mine.node

  records : SeesRecords k d.intents W.disk
  records = sees.records k (record { number = k; disk = d; live = Some t }) (node_here M k (record { number = k; disk = d; live = Some t }))

  -- another node's records, where one of this node's is written
  records_apart : (V : State) (o : Option (List ℕ)) → V.intent ≡ put (uid_number act) o W.disk.intent → (m : ℕ) (n : Node) →
      (m == k) ≡ false → SeesRecords m n.disk.intents W.disk → SeesRecords m n.disk.intents V
  records_apart V o is m n apart s = record {
    sorted = s.sorted;
    own = s.own;
    is = λ w at. ap (λ f. f (uid_number w)) is ∙ put_other (uid_number act) o W.disk.intent (uid_number w) (apart_number act w
        (λ same. never (ap (λ j. j == k) (sym at ∙ ap (λ (z : Uid). z.node) same ∙ here) ∙ test_same k) apart)) ∙ s.is w at;
  }

  -- what the coordinator has taken note of
  notes : SeesNotes x d.intents t.coord W
  notes =
      sees.notes k (record { number = k; disk = d; live = Some t }) t (node_here M k (record { number = k; disk = d; live = Some t })) refl

  open_here : is_open act t.coord.tree ≡ true
  open_here = ap is_open_branch waits.found ∙ ap (λ (o : Option End). not (is_some o)) waits.unended

  -- no commit without a record has ended it
  not_bare : W.disk.bare (uid_number act) ≡ true → ⊥
  not_bare bare = let n = mine.bare act waits.branch waits.doing waits.found waits.at_work bare in never_some n.committed waits.unended

  -- the coordinator has ended the top
  has_ended : HasEnded act waits.branch ending.Commit t.coord.tree C.tree
  has_ended = decided_tree t.coord act waits.branch waits.doing p waits.found waits.at_work

  doings_stay : (w : Uid) → w ≢ act → doing_of w C ≡ doing_of w t.coord
  doings_stay = decided_doings t.coord act waits.branch waits.doing p waits.found waits.at_work

  tellings_stay : (w : Uid) → w ≢ act → at_uid w C.telling ≡ at_uid w t.coord.telling
  tellings_stay = decided_tellings t.coord act waits.branch waits.doing p waits.found waits.at_work

  telling_here : has_record p ≡ true → at_uid act C.telling ≡ Some (record { root = root_of p.path; nodes = participants p })
  telling_here = decided_telling t.coord act waits.branch waits.doing p waits.found waits.at_work

  doing_now : doing_of act C ≡ Some (record waits.doing { now = Idle; took = participants p })
  doing_now = decided_doing t.coord act waits.branch waits.doing p waits.found waits.at_work

  -- what it prepared is known from now on
  roots_known : (V : World) → IsLater W V → ((w : disk.Packed) → (plan_at x p).writes ≡ Some w → Known V.disk w) →
      AllByRecursion (λ (r : ℕ × Root). KnowsRoot x V r.1) C.roots
  roots_known V later writes =
      decided_roots t.coord act waits.branch waits.doing p waits.found waits.at_work x W V notes.roots changes later writes
    where
      changes : (st : ObjectState) → Among st p.changed → st.uid ≡ object x → IsOneChange p x st
      changes st among of = let one = waits.changes x st among of in record { found = one.found; used = one.used; uses = one.uses }

  -- the line and what is told
  says_commit : AreAll is_say (says act body.Committed t.coord)
  says_commit = by (doing_of act t.coord)
    where
      by : (o : Option Doing) → AreAll is_say (say_for body.Committed o)
      by None = refl
      by (Some r) = refl

  abbrev i0 : Intent
  i0 = record { root = root_of p.path; nodes = participants p }

  abbrev Rest : List Effect
  Rest = says act body.Committed t.coord ++ map (decided_told (root_of p.path) act p) p.sent

  abbrev Goal : Bool → Type 0
  Goal b = Walks Q e k ((if b then Do (PutIntent act i0) ∷ [] else []) ++ Rest) (Up Q k (with_coord t C)) d M

  -- its record is written

  abbrev d1 : Disk
  d1 = record d { intents = put_uid act i0 d.intents }

  abbrev Intended : World
  Intended = after W (machine.Intend (uid_number act) (participants p))

  written : Allowed W (machine.Intend (uid_number act) (participants p)) × Stills W (machine.Intend (uid_number act) (participants p))
      × SeesRecords k (put_uid act i0 d.intents) (after W (machine.Intend (uid_number act) (participants p))).disk
  written = record_is_written x k W act i0 p d.intents sees.whole.core confirming refl answered records here refl

  mine1 : SeesCoord x k d.inc tops t.coord Intended.disk
  mine1 = coord_same x k d.inc tops t.coord W.disk Intended.disk refl refl refl refl refl mine

  notes1 : SeesNotes x (put_uid act i0 d.intents) t.coord Intended
  notes1 = put_noted x Intended d.intents t.coord act i0 open_here (notes_later x W Intended
      (effects_are_later W (machine.Intend (uid_number act) (participants p) ∷ []) (written.0, tt) sees.whole) d.intents t.coord notes)

  written_seen : SeesDisks x tops Intended (up k d1 t M)
  written_seen = calm_seen x k tops W M d t act (machine.Intend (uid_number act) (participants p)) (put_uid act i0 d.intents) t.coord sees
      here written.0 refl written.1 refl (λ w other. refl) (λ w other. refl) written.2
      (λ m n apart s. records_apart Intended.disk (Some (participants p)) refl m n apart s) mine1 notes1

  -- a stop at the record leaves the top open
  pub record_stops : (how : Stop) →
      (V : World) × (V.disk.tops ≡ W.disk.tops) × SeesDisks x tops V (halted e k (stopped how (PutIntent act i0) d) M)
  record_stops Before = stops_open x tops e k d (Some t) M W sees
  record_stops (InPart which) = stops_open x tops e k d (Some t) M W sees
  record_stops After = let r = stops_open x tops e k d1 (Some t) M Intended written_seen in (r.0, r.1, r.2)

  by_record : (b : Bool) → has_record p ≡ b → Goal b
  by_record true has = (
    stops,
    say_walk x k tops e (with_coord t C) (with_coord t C) (says act body.Committed t.coord)
        (map (decided_told (root_of p.path) act p) p.sent) d1 LastWorld says_commit tolds M s2,
  )
    where
      LastWorld : World
      LastWorld = after Intended (machine.Decide (uid_number act))

      made : Allowed Intended (machine.Decide (uid_number act)) × Stills Intended (machine.Decide (uid_number act))
          × SeesRecords k (put_uid act i0 d.intents) (after Intended (machine.Decide (uid_number act))).disk
      made = decision_is_made k Intended act i0 (put_uid act i0 d.intents) written.2 (keys.put_same act i0 d.intents)
          (commits_are_undecided x W.disk (uid_number act) p sees.whole.core confirming)

      stages : (w : Uid) → w ≢ act → LastWorld.disk.stage (uid_number w) ≡ Intended.disk.stage (uid_number w)
      stages w other = put_other (uid_number act) disk.Gone Intended.disk.stage (uid_number w) (apart_number act w other)

      later_all : IsLater W LastWorld
      later_all = effects_are_later W (machine.Intend (uid_number act) (participants p) ∷ machine.Decide (uid_number act) ∷ [])
          (written.0, (made.0, tt)) sees.whole

      told : Recorded x tops e k d1 (with_coord t C) act (root_of p.path) p top LastWorld.disk
      told = record {
        done = ap (λ b. b || disk.decided Intended.disk (uid_number act)) (test_same (uid_number act));
        there = put_same (uid_number act) (Some (participants p)) W.disk.intent;
      }

      s2 : SeesDisks x tops LastWorld (up k d1 (with_coord t C) M)
      s2 = calm_seen x k tops Intended M d1 t act (machine.Decide (uid_number act)) (put_uid act i0 d.intents) C written_seen here made.0
          note made.1 refl stages (λ w other. refl) made.2
          (λ m n apart s. record { sorted = s.sorted; own = s.own; is = s.is })
          (ended_coord x k d.inc tops t.coord C Intended.disk LastWorld.disk act waits.branch ending.Commit mine1 waits.found has_ended
          doings_stay stages refl refl refl (ap is_gone (put_same (uid_number act) disk.Gone Intended.disk.stage)) (λ w other. refl)
          (λ bare r is. absurd (not_bare bare)))
          (ended_noted x (put_uid act i0 d.intents) t.coord C LastWorld act waits.branch ending.Commit (notes_later x Intended LastWorld
          (effects_are_later Intended (machine.Decide (uid_number act) ∷ []) ((made.0.0, made.0.1), tt) written_seen.whole)
          (put_uid act i0 d.intents) t.coord notes1) waits.found has_ended tellings_stay doings_stay
          (λ i there. let same : i0 ≡ i = some_is (keys.put_same act i0 d.intents) there in subst (λ (j : Intent). IsSettled act j C.telling
          LastWorld) same (record { done = told.done; awaited = λ m on. inl (ap (is_awaited_by m) (telling_here has) ∙ on) }))
          (λ r is. let same = some_is doing_now is in ((λ m on. inl told.done), subst (λ (z : Doing). KnowsNow x LastWorld z.now) same tt))
          (roots_known LastWorld later_all (λ w writes. inl (inl (ap (λ (g : disk.Plan). g.writes) confirming.plan ∙ writes)))))

      tolds : (N : Seen) → SeesDisks x tops LastWorld (up k d1 (with_coord t C) N) →
          Walks Q e k (map (decided_told (root_of p.path) act p) p.sent) (Up Q k (with_coord t C)) d1 N
      tolds N s = recorded_told x tops e k d1 (with_coord t C) act (root_of p.path) p top has p.sent N LastWorld told s

      stops : Stops Q e k (PutIntent act i0) d M
      stops how = let r = record_stops how in (r.0, r.2)
  by_record false has_not = say_walk x k tops e (with_coord t C) (with_coord t C) (says act body.Committed t.coord)
      (map (decided_told (root_of p.path) act p) p.sent) d LaterWorld says_commit tolds M s1
    where
      LaterWorld : World
      LaterWorld = after W (machine.EndBare (uid_number act))

      ends : Allowed W (machine.EndBare (uid_number act)) × Stills W (machine.EndBare (uid_number act))
          × SeesRecords k d.intents (after W (machine.EndBare (uid_number act))).disk
      ends = bare_commit_ends x k W act p d.intents confirming refl has_not answered records here waits.unrecorded

      stages : (w : Uid) → w ≢ act → LaterWorld.disk.stage (uid_number w) ≡ W.disk.stage (uid_number w)
      stages w other = put_other (uid_number act) disk.Gone W.disk.stage (uid_number w) (apart_number act w other)

      bares : (w : Uid) → w ≢ act → LaterWorld.disk.bare (uid_number w) ≡ W.disk.bare (uid_number w)
      bares w other = put_other (uid_number act) true W.disk.bare (uid_number w) (apart_number act w other)

      later : IsLater W LaterWorld
      later = effects_are_later W (machine.EndBare (uid_number act) ∷ []) (ends.0, tt) sees.whole

      -- who needs no record wrote nothing of the object
      untargeted : (w : disk.Packed) → (plan_at x p).writes ≡ Some w → ⊥
      untargeted w writes =
          let open_yet : undecided W.disk (uid_number act) ≡ true = (λ i. open_by (commits_are_undecided x W.disk (uid_number act) p
          sees.whole.core confirming i) (confirming.stage i) (W.disk.intent (uid_number act))) in
          let taken = (sees.whole.mail (mail.Confirmed (uid_number act)) answered).1 open_yet in
          let written = ap (λ (g : disk.Plan). g.writes) confirming.plan ∙ writes in
          ⊎_elim (λ conf. let one = writers_have_targets W.disk (uid_number act) sees.whole.core conf open_yet (ap is_some written) in
          never one.1 (ends.0.untouched one.0)) (λ light. never_some written (sees.whole.core.light.plain (uid_number act) light)) taken

      s1 : SeesDisks x tops LaterWorld (up k d (with_coord t C) M)
      s1 = calm_seen x k tops W M d t act (machine.EndBare (uid_number act)) d.intents C sees here ends.0 note ends.1 refl stages bares
          ends.2
          (λ m n apart s. record { sorted = s.sorted; own = s.own; is = s.is })
          (ended_coord x k d.inc tops t.coord C W.disk LaterWorld.disk act waits.branch ending.Commit mine waits.found has_ended doings_stay
          stages refl refl refl (ap is_gone (put_same (uid_number act) disk.Gone W.disk.stage)) bares
          (λ bare r is. (refl, ap (λ (z : Doing). order.has z.took naming) (sym (some_is doing_now is)) ∙ naming_takes_part p refl)))
          (ended_noted x d.intents t.coord C LaterWorld act waits.branch ending.Commit (notes_later x W LaterWorld later d.intents t.coord
          notes) waits.found has_ended tellings_stay doings_stay (λ i there. absurd (never_some there waits.unrecorded))
          (λ r is. let same = some_is doing_now is in
          ((λ m on. inr (put_same (uid_number act) true W.disk.bare)), subst (λ (z : Doing). KnowsNow x LaterWorld z.now) same tt))
          (roots_known LaterWorld later (λ w writes. absurd (untargeted w writes))))

      tolds : (N : Seen) → SeesDisks x tops LaterWorld (up k d (with_coord t C) N) →
          Walks Q e k (map (decided_told (root_of p.path) act p) p.sent) (Up Q k (with_coord t C)) d N
      tolds N s = bare_told x tops e k d (with_coord t C) act (root_of p.path) p top has_not refl p.sent N LaterWorld
          (put_same (uid_number act) true W.disk.bare) s

  pub decides_walk : Goal (has_record p)
  decides_walk = by_record (has_record p) refl

  -- ---- where a stop falls

  -- a stop at one of its works leaves who is decided as it was
  abbrev Open : Seen → Type 0
  Open N = (V : World) × (V.disk.tops ≡ W.disk.tops) × SeesDisks x tops V N

  tolds_stops : (ns : List ℕ) (c : Disk) (N : Seen) → Walks Open e k (map (decided_told (root_of p.path) act p) ns) (λ c L. ⊤) c N
  tolds_stops [] c N = tt
  tolds_stops (n ∷ ns) c N = by (order.has (participants p) n) (tolds_stops ns)
    where
      by : (b : Bool) → ((c : Disk) (L : Seen) → Walks Open e k (map (decided_told (root_of p.path) act p) ns) (λ c L. ⊤) c L)
          → Walks Open e k ((if b then tell (root_of p.path) (has_record p) ((act, ending.Commit) ∷ []) n else tell (root_of p.path) false
          ((act, ending.Abort) ∷ []) n) ∷ map (decided_told (root_of p.path) act p) ns) (λ c L. ⊤) c N
      by true ih = λ more quiet. ih c _
      by false ih = λ more quiet. ih c _

  rest_stops : (c : Disk) → Walks Open e k Rest (λ c L. ⊤) c M
  rest_stops c = by (doing_of act t.coord)
    where
      by : (o : Option Doing) → Walks Open e k (say_for body.Committed o ++ map (decided_told (root_of p.path) act p) p.sent) (λ c L. ⊤) c M
      by None = tolds_stops p.sent c M
      by (Some r) = tolds_stops p.sent c _

  pub decision_open : Walks Open e k ((if has_record p then Do (PutIntent act i0) ∷ [] else []) ++ Rest) (λ c L. ⊤) d M
  decision_open = by (has_record p)
    where
      by : (b : Bool) → Walks Open e k ((if b then Do (PutIntent act i0) ∷ [] else []) ++ Rest) (λ c L. ⊤) d M
      by true = (record_stops, rest_stops d1)
      by false = rest_stops d

-- the plan that naming has confirmed
abbrev sure : commit.Plan → commit.Plan
sure p = record p { confirmed = true }

pub confirmed_is_heard : ConfirmedIsHeard
confirmed_is_heard x tops e k d t from act p1 M waits top note W sees claims =
    subst (λ a. Walks (IsSeenByDisks x tops) e k ((record_work a (sure p1) ++ says a body.Committed t.coord) ++ map (decided_told
    (root_of p1.path) a (sure p1)) p1.sent) (Up (IsSeenByDisks x tops) k (with_coord t (decided a (sure p1) t.coord))) d M)
    (sym waits.path)
    (subst (λ es. Walks (IsSeenByDisks x tops) e k es (Up (IsSeenByDisks x tops) k (with_coord t (decided act (sure p1) t.coord))) d M)
    (sym (append_assoc (record_work act (sure p1)) (says act body.Committed t.coord)
    (map (decided_told (root_of p1.path) act (sure p1)) p1.sent)))
    (decides_walk x tops e k d t act p1 M waits top note W sees claims))

-- who is decided as naming's Yes is heard was so before, where a stop falls
pub confirmed_stops : (x : ℕ) (tops : Kinds) (e k : ℕ) (d : Disk) (t : Parts) (from : ℕ) (act : Uid) (p : commit.Plan) (M : Seen)
    → WaitsForNaming t d.intents act p → tops.is_top (uid_number act) ≡ true → may_note tops.walk (Decides (uid_number act)) ≡ true →
    (W : World) → SeesDisks x tops W (up k d t M) → ClaimsReply x W from act (Reply.Confirmed confirmed.Yes)
    → let did = moved_commit act (commit.answered from (Confirming p) (Reply.Confirmed confirmed.Yes)) d.intents t.coord in
    Walks (λ N. (V : World) × (V.disk.tops ≡ W.disk.tops) × SeesDisks x tops V N) e k did.outs (λ c L. ⊤) d M
confirmed_stops x tops e k d t from act p1 M waits top note W sees claims =
    subst (λ a. Walks (λ N. (V : World) × (V.disk.tops ≡ W.disk.tops) × SeesDisks x tops V N) e k ((record_work a (sure p1)
    ++ says a body.Committed t.coord) ++ map (decided_told (root_of p1.path) a (sure p1)) p1.sent) (λ c L. ⊤) d M)
    (sym waits.path)
    (subst (λ es. Walks (λ N. (V : World) × (V.disk.tops ≡ W.disk.tops) × SeesDisks x tops V N) e k es (λ c L. ⊤) d M)
    (sym (append_assoc (record_work act (sure p1)) (says act body.Committed t.coord)
    (map (decided_told (root_of p1.path) act (sure p1)) p1.sent)))
    (decision_open x tops e k d t act p1 M waits top note W sees claims))
