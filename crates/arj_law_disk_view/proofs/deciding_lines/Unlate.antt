-- In each run the machine decides no top whose node stops before it says so: where a stop falls, who is decided was so before.
use Rattle.arj_law_parts.proofs.Words
use Words.{◌≡◌, ◌⊎◌, ◌==◌, ◌+◌, ℕ, List, [], ◌∷◌, ◌++◌, Bool, true, false, cond, Some, None, refl, sym, ◌∙◌, ap, subst, inl, inr, ⊎_elim}
use Words.{eqb-true, ⊤, and_parts, in_from, Body, Header, Label, Uid, again_all, begin_action, Coord, Doing, doing_of, Disk, Effect, Intent}
use Words.{tick_outs, Parts, with_coord, uid_number, Node, acts, parent_of, parts_in, restart_outs, at_place, is_own}
use Words.{numbered, number_tells, Seen, Line, is_serial}
use Rattle.arj_law_disk_view.proofs.Terms
use Terms.{in_at, only_decides, Office, Done, decided, decided_in, In, never, or_cases, some_is, test_same, at, down, given, said, up, Up}
use Terms.{Walks, halted, walks_both, walks_to, Along, Kinds, followed, OnlyFound, SeesBoth, Answering, Change, Changes, Deciding}
use Terms.{IsOpenAfter, IsSeenAfter, Quietly, change_by, HaveEntries, KeepsPart, are_recorded, book, is_decided, Later, decided_later}
use Terms.{IsTied, WithTie}
use Terms.machine
use Rattle.arj_law_disk_view.proofs.deciding_lines.Steps.{IsNear, IsStep, near_same, nothing_more, step_halted, step_walk}
use Rattle.arj_law_disk_view.proofs.names
use names.{InputBoth.inputs_keep_both, NewConfirms.any_prepared, StepsFollowed.restarts_are_followed, StepsKept.actions_keep_both}
use names.{StepsKept.ticks_keep_both}
use names.MessageBoth.{messages_keep_both, messages_stop_open}
use names.RestartBoth.{restarts_keep_both, restarts_stop_open}
use names.StepsBoth.{lines_keep_both, stops_keep_both, walks_start}
use Rattle.arj_law_disk_view.proofs.running
use running.{BothEach.counted, EntryWalks.mine_of, Kept.KeepsEach, RecordWalks.restart_plain}
use running.Grows.{effects_grow, later_lines, recorded_there, who_decides}
use Rattle.arj_law_disk_view.proofs.view.{Frames.node_here, Halts.lines_seen, Halts.stops_seen}
use Rattle.arj_law_disk_view.specs.deciding_lines.Said.{AreNotLate}

-- ---- who is newly decided

split : (z : ℕ) (xs ys : List Done) → decided_in (xs ++ ys) z ≡ true → ((d : Done) × In d xs × (d.top ≡ z)) ⊎ (decided_in ys z ≡ true)
split z [] ys on = inr on
split z (x ∷ xs) ys on = ⊎_elim (λ here. inl (x, inl refl, eqb-true x.top z here))
    (λ rest. ⊎_elim (λ a. inl (a.0, inr a.1, a.2)) (λ b. inr b) (split z xs ys rest)) (or_cases (x.top == z) (decided_in (xs ++ ys) z) on)

newly : (g : ℕ → Bool) (W V : machine.World) → Along (record { from = W; noted = only_decides g }) V → (z : ℕ) → decided V.disk z ≡ true →
    (decided W.disk z ≡ true) ⊎ (g z ≡ true)
newly g W V a z on =
    let n = effects_grow (only_decides g) W a.effects a.only a.allowed in
    ⊎_elim (λ new. let r = new in inr (subst (λ y. g y ≡ true) r.2 (n.noted r.0 r.1))) (λ old. inl old)
    (split z n.new W.disk.tops (sym (ap (λ ds. decided_in ds z) (ap (λ (U : machine.World). U.disk.tops) (sym a.here) ∙ n.are)) ∙ on))

own_doing : (u : Uid) (c : Coord) (d : Doing) → doing_of u c ≡ Some d → is_own u c.tree ≡ true
own_doing u c d found = by (is_own u c.tree) found
  where
    by : (b : Bool) → cond b (at_place u.num c.doings) None ≡ Some d → b ≡ true
    by true is = refl
    by false is = absurd (cc is)

-- ---- after a step

module _ (Idle : List Line → Uid →
    Type 0) (A : Office) (M N : Seen) (tie : IsTied Idle A.world M) (early : AreNotLate A.world M) (step : IsStep M N) where
  said_still : (u : Uid) (n : Node) → N.nodes u.node ≡ Some n → decided A.world.disk (uid_number u) ≡ true →
      is_decided (book N.lines) u ≡ true
  said_still u n here old = later (⊎_elim (λ is. is) (λ late. early u had.0 had.1 late.down old) (tie.0 u had.0 had.1 old))
    where
      had : (m : Node) × (M.nodes u.node ≡ Some m) × (m.live ≡ None → (let d = n.disk in d.intents) ≡ (let d = m.disk in d.intents))
      had = step.nodes u.node n here

      later : is_decided (book M.lines) u ≡ true → is_decided (book N.lines) u ≡ true
      later is = decided_later (book M.lines) (book N.lines)
          (subst (λ ls. Later (book M.lines) (book ls)) (sym step.lines) (later_lines M.lines step.more)) u is

  -- where nobody is newly decided
  still : (B : Office) → B.world.disk.tops ≡ A.world.disk.tops → AreNotLate B.world N
  still B same u n here stopped on = said_still u n here (ap (λ ds. decided_in ds (uid_number u)) (sym same) ∙ on)

-- where those that are newly decided are of a node that is up
at_up : (Idle : List Line → Uid → Type 0) (A B : Office) (M Z : Seen) (k : ℕ) (c : Disk) (v : Parts) → IsTied Idle A.world M →
    AreNotLate A.world M → IsStep M (up k c v Z)
    → ((u : Uid) → decided B.world.disk (uid_number u) ≡ true → (decided A.world.disk (uid_number u) ≡ true) ⊎ (u.node ≡ k)) →
    AreNotLate B.world (up k c v Z)
at_up Idle A B M Z k c v tie early step who u n here stopped on =
    ⊎_elim (λ old. said_still Idle A M (up k c v Z) tie early step u n here old)
    (λ at_k. let same : record { number = k; disk = c; live = Some v }
    ≡ n = some_is (node_here Z k (record { number = k; disk = c; live = Some v })) (ap (λ j. (up k c v Z).nodes j) (sym at_k) ∙ here) in
    absurd (up_not (ap (λ (z : Node). z.live) same ∙ stopped))) (who u on)
  where
    up_not : Some v ≡ None → ⊥
    up_not is = cc is

-- ---- each handler

was_up : {A : Type 0} (t : Parts) → Some t ≡ None → A
was_up t is = absurd (cc is)

module _ (hd : Header) (x : ℕ) (R G : Seen → Type 0) (P : Kinds → Office → Seen → Type 0) (Idle : List Line → Uid →
    Type 0) (parts : KeepsPart hd x (λ W M. R M × (G M × AreNotLate W M)) (WithTie P Idle)) where
  -- the state that is carried, in which nobody is late
  abbrev pub IsCarriedSo : Kinds → Seen → Type 0
  IsCarriedSo tops M = (A : Office) × SeesBoth x tops A M × WithTie P Idle tops A M × AreNotLate A.world M

  -- stops at which nobody is newly decided, and an end
  carried : (tops : Kinds) (A : Office) (M : Seen) (C : Office → Type 0) (e k : ℕ) (outs : List Effect) (v : Parts) (d : Disk) (N : Seen) →
      IsTied Idle A.world M → AreNotLate A.world M
      → ((B : Office) → C B → (u : Uid) → decided B.world.disk (uid_number u) ≡ true →
      (decided A.world.disk (uid_number u) ≡ true) ⊎ (u.node ≡ k))
      → Walks (λ Z. (B : Office) × C B × (B.world.disk.tops ≡ A.world.disk.tops) × SeesBoth x tops B Z) e k outs (λ c Z. ⊤) d N
      → Walks (λ Z. (B : Office) × C B × SeesBoth x tops B Z) e k outs (Up (λ Z. (B : Office) × C B × SeesBoth x tops B Z) k v) d N
      → Walks (λ Z. (B : Office) → C B → SeesBoth x tops B Z →
      WithTie P Idle tops B Z) e k outs (Up (λ Z. (B : Office) → C B → SeesBoth x tops B Z → WithTie P Idle tops B Z) k v) d N
      → Walks (IsStep M) e k outs (Up (IsStep M) k v) d N → Walks (IsCarriedSo tops) e k outs (Up (IsCarriedSo tops) k v) d N
  carried tops A M C e k outs v d N tie early who stops seen holds steps =
      walks_to (λ Z. ((Stop Z × End Z) × (Holds Z × IsStep M Z))) (IsCarriedSo tops) e k outs
      (λ c Z. (⊤ × Up End k v c Z) × (Up Holds k v c Z × Up (IsStep M) k v c Z)) (Up (IsCarriedSo tops) k v) d N
      (λ Z h. let s = h.0.0 in (s.0, s.3, h.1.0 s.0 s.1 s.3, still Idle A M Z tie early h.1.1 s.0 s.2))
      (λ c Z h. let s = h.0.1 in (s.0, s.2, h.1.0 s.0 s.1 s.2, at_up Idle A s.0 M Z k c v tie early h.1.1 (who s.0 s.1)))
      (walks_both (λ Z. Stop Z × End Z) (λ Z. Holds Z × IsStep M Z) e k outs (λ c Z. ⊤ × Up End k v c Z)
      (λ c Z. Up Holds k v c Z × Up (IsStep M) k v c Z) d N
      (walks_both Stop End e k outs (λ c Z. ⊤) (Up End k v) d N stops seen)
      (walks_both Holds (IsStep M) e k outs (Up Holds k v) (Up (IsStep M) k v) d N holds steps))
    where
      Stop : Seen → Type 0
      Stop Z = (B : Office) × C B × (B.world.disk.tops ≡ A.world.disk.tops) × SeesBoth x tops B Z

      End : Seen → Type 0
      End Z = (B : Office) × C B × SeesBoth x tops B Z

      Holds : Seen → Type 0
      Holds Z = (B : Office) → C B → SeesBoth x tops B Z → WithTie P Idle tops B Z

  -- where nobody is decided at all
  calmly : (tops : Kinds) (A : Office) (e k : ℕ) (outs : List Effect) (v : Parts) (d : Disk) (N : Seen) → Walks (IsSeenAfter Quietly x tops
      A) e k outs (Up (IsSeenAfter Quietly x tops A) k v) d N → Walks (IsOpenAfter Quietly x tops A) e k outs (λ c Z. ⊤) d N
  calmly tops A e k outs v d N seen = walks_to (IsSeenAfter Quietly x tops A) (IsOpenAfter Quietly x tops A) e k outs
      (Up (IsSeenAfter Quietly x tops A) k v) (λ c Z. ⊤) d N (λ Z s. (s.0, s.1, (let o = s.1 in o.tops), s.2)) (λ c Z s. tt) seen

  -- who is decided by a step
  decided_by : (o : Change) (A : Office) (k : ℕ) →
      ((z : ℕ) (keeps : Bool) → o ≡ Deciding z keeps → (w : Uid) × (uid_number w ≡ z) × (w.node ≡ k)) → (B : Office) → Changes o A B →
      (u : Uid) → decided B.world.disk (uid_number u) ≡ true → (decided A.world.disk (uid_number u) ≡ true) ⊎ (u.node ≡ k)
  decided_by Quietly A k who B c u on = inl (ap (λ ds. decided_in ds (uid_number u)) (sym c.tops) ∙ on)
  decided_by (Answering t r) A k who B c u on = inl (ap (λ ds. decided_in ds (uid_number u)) (sym (let o = c.0 in o.tops)) ∙ on)
  decided_by (Deciding t keeps) A k who B c u on = ⊎_elim (λ old. inl old)
      (λ new. let w = who t keeps refl in
      inr (ap (λ (z : Uid). z.node) (number_tells u w.0 (eqb-true (uid_number u) t new ∙ sym w.1)) ∙ w.2))
      (newly (λ z. z == t) A.world B.world c.along (uid_number u) on)

  quietly : (A : Office) (k : ℕ) (B : Office) → Changes Quietly A B → (u : Uid) → decided B.world.disk (uid_number u) ≡ true →
      (decided A.world.disk (uid_number u) ≡ true) ⊎ (u.node ≡ k)
  quietly A k B c u on = inl (ap (λ ds. decided_in ds (uid_number u)) (sym c.tops) ∙ on)

  pub unlate_each : KeepsEach hd x (λ M. (R M × HaveEntries x M) × G M) IsCarriedSo
  unlate_each = record {
    sees = λ tops M s. (s.0.world, s.1.disks);
    quiet = λ tops e bs M walk quiet r (A, both, part, early). let s = lines_keep_both x tops e bs A M walk both
        (lines_seen x (followed tops A.world (λ n. false)) e bs M (A.world, walks_start x tops (λ n. false) A M both)) in (
          s.0,
          s.2,
          parts.quiet tops e bs M A walk quiet (r.0.0, (r.1, early)) both part s.0 s.1 s.2,
          still Idle A M (said e bs M) part.1 early (quiet_step e bs M) s.0 (let o = s.1 in o.tops),
        );
    stop = λ tops e k d live M walk r (A, both, part, early). let s = stops_keep_both x tops e k d live A M walk both (stops_seen x
        (followed tops A.world (λ n. false)) e k d live M (A.world, walks_start x tops (λ n. false) A (at k d live M) both)) in (
          s.0,
          s.2,
          parts.stop tops e k d live M A walk (r.0.0, (r.1, early)) both part s.0 s.1 s.2,
          still Idle A (at k d live M) (halted e k d M) part.1 early (step_halted k d live M e d M (near_same M) (λ down. refl)) s.0
              (let o = s.1 in o.tops),
        );
    message = λ tops e k d t v from m outs M walk n r sent meant is of own (A, both, part, early).
        let p = parts.message tops e k d t v from m outs M A walk n (r.0.0, (r.1, early)) sent meant is of own both part in
        let h = p.0 in
        let same = (let z = h.only in sym z.world) in
        carried tops h.office (up k d t M) (Changes (change_by x d t m) h.office) e k outs v d M
        (subst (λ W. IsTied Idle W (up k d t M)) same part.1) (subst (λ W. AreNotLate W (up k d t M)) same early)
        (decided_by (change_by x d t m) h.office k (λ z keeps by. of_node tops k d t M A both (who_decides x d t m z keeps by).top
        (who_decides x d t m z keeps by).doing (who_decides x d t m z keeps by).does z (who_decides x d t m z keeps by).number))
        (messages_stop_open x tops e k d t v from m outs h.office M walk n sent (λ o here. counted x tops k d t M m h.office o n r.0.1
        h.both of here (p.2 o here)) p.1 is h.both) (messages_keep_both x tops e k d t v from m outs h.office M walk n sent
        (λ o here. counted x tops k d t M m h.office o n r.0.1 h.both of here (p.2 o here)) p.1 is h.both) h.along
        (step_walk k d (Some t) M e v outs d M (near_same M) (was_up t) (was_up t));
    act = λ tops e k d t i M walk n r is free (A, both, part, early).
        let p = parts.act tops e k d t i M A walk n (r.0.0, (r.1, early)) is free both part in
        let h = p.0 in
        let did = acts i d.intents t.coord in
        let same = (let z = h.only in sym z.world) in
        let seen = inputs_keep_both hd x tops e k d t i h.office M walk n.kinds n.coord is free p.1 h.both in
        carried tops h.office (up k d t M) (Changes Quietly h.office) e k did.outs (with_coord t did.part) d M
        (subst (λ W. IsTied Idle W (up k d t M)) same part.1) (subst (λ W. AreNotLate W (up k d t M)) same early)
        (quietly h.office k) (calmly tops h.office e k did.outs (with_coord t did.part) d M seen) seen h.along
        (step_walk k d (Some t) M e (with_coord t did.part) did.outs d M (near_same M) (was_up t) (was_up t));
    begin = λ tops e k d t l how parent M walk n r new may free kind (A, both, part, early).
        let did = begin_action l how parent (parent_of parent t.coord) t.coord in
        let N : Seen = given l (record { node = k; serial = is_serial how }) M in
        let seen = actions_keep_both x tops e k d t l (record { node = k; serial = is_serial how }) how parent
        (parent_of parent t.coord) A M walk n.coord kind both in
        carried tops A (up k d t M) (Changes Quietly A) e k did.outs (with_coord t did.part) d N part.1 early
        (quietly A k) (calmly tops A e k did.outs (with_coord t did.part) d N seen) seen
        (parts.begin tops e k d t l how parent M A walk n (r.0.0, (r.1, early)) new may free kind both part)
        (step_walk k d (Some t) M e (with_coord t did.part) did.outs d N (given_near l (is_serial how) k M) (was_up t) (was_up t));
    tick = λ tops e k d t M walk n r (A, both, part, early).
        let outs = tick_outs (record { number = k; disk = d; live = Some t }) t in
        let v = with_coord t (again_all t.coord.doings t.coord).part in
        let seen = ticks_keep_both x tops e k d t A M walk n.coord n.begun both in
        carried tops A (up k d t M) (Changes Quietly A) e k outs v d M part.1 early (quietly A k) (calmly tops A e k outs v d M seen) seen
        (parts.tick tops e k d t M A walk n (r.0.0, (r.1, early)) both part)
        (step_walk k d (Some t) M e v outs d M (near_same M) (was_up t) (was_up t));
    restart = λ tops e k d M walk held r (A, both, part, early).
        let outs = restart_outs hd k (d.inc + 1) d in
        let v = parts_in k (d.inc + 1) d in
        let g = are_recorded d.intents in
        carried tops A (down k d M) (OnlyFound g A) e k outs v d M part.1 early (found_by tops k d M A both)
        (restarts_stop_open x tops e k hd d g A M walk (λ same. let e = mine_of x k d None M r.0.1 (ap (λ z. 1 == z) same) in
        let h = e.disk in h.held) both)
        (restarts_keep_both x tops e k hd d g A M walk (λ same. let e = mine_of x k d None M r.0.1 (ap (λ z. 1 == z) same) in
        let h = e.disk in h.held) both (restarts_are_followed x tops (only_decides g) e k hd d A M held (λ u i at.
        any_prepared (λ (z : Uid × Intent). uid_number z.0 == uid_number u) u i d.intents at (test_same (uid_number u))) both))
        (parts.restart tops e k d M A walk (r.0.0, (r.1, early)) both part)
        (step_walk k d None M e v outs d M (near_same M) (λ down. restart_plain [] hd k d) (λ down. refl));
    first = λ tops walk kinds st formed. let f = parts.first tops walk kinds st formed in
        (f.0, f.1, f.2, λ u n here stopped on. absurd (never on (ap (λ ds. decided_in ds (uid_number u)) f.3)));
  }
    where
      quiet_step : (e : ℕ) (bs : List Body) (M : Seen) → IsStep M (said e bs M)
      quiet_step e bs M = record { more = numbered e bs; lines = refl; nodes = λ j n is. (n, is, λ down. refl) }

      given_near : (l : Label) (serial : Bool) (k : ℕ) (M : Seen) → IsNear M (given l (record { node = k; serial = serial }) M)
      given_near l serial k M = record { more = []; lines = nothing_more M.lines; nodes = λ j. refl }

      of_node : (tops : Kinds) (k : ℕ) (d : Disk) (t : Parts) (M : Seen) (A : Office) → SeesBoth x tops A (up k d t M) →
          (w : Uid) (q : Doing) → doing_of w t.coord ≡ Some q → (z : ℕ) → uid_number w ≡ z → (w : Uid) × (uid_number w ≡ z) × (w.node ≡ k)
      of_node tops k d t M A both w q does z number =
          let b = both.disks in
          let c = b.coords k (record { number = k; disk = d; live = Some t }) t
          (node_here M k (record { number = k; disk = d; live = Some t })) refl in (
            w,
            number,
            eqb-true w.node t.coord.tree.node
                (and_parts (w.node == t.coord.tree.node) (w.inc == t.coord.tree.inc) (own_doing w t.coord q does)).0 ∙ c.node,
          )

      found_by : (tops : Kinds) (k : ℕ) (d : Disk) (M : Seen) (A : Office) → SeesBoth x tops A (down k d M) → (B : Office) →
          OnlyFound (are_recorded d.intents) A B → (u : Uid) → decided B.world.disk (uid_number u) ≡ true →
          (decided A.world.disk (uid_number u) ≡ true) ⊎ (u.node ≡ k)
      found_by tops k d M A both B c u on = ⊎_elim (λ old. inl old)
          (λ new.
          let e = recorded_there d.intents (uid_number u) new in
          let b = both.disks in
          let s = b.records k (record { number = k; disk = d; live = None })
          (node_here M k (record { number = k; disk = d; live = None })) in
          inr (ap (λ (z : Uid). z.node) (number_tells u (let y = e.0 in y.0) (sym e.2))
          ∙ s.own (let y = e.0 in y.0) (let y = e.0 in y.1) (in_at e.0 d.intents s.sorted (in_from e.0 d.intents e.1))))
          (newly (are_recorded d.intents) A.world B.world c.along (uid_number u) on)
