-- The tops that an object's disk machine decided were recorded: each handler keeps it, beside what is carried with the machine's state.
use Rattle.arj_law_parts.proofs.Words
use Words.{◌≡◌, ℕ, ◌+◌, List, [], true, Option, Some, None, is_some, refl, sym, ◌∙◌, ap, subst, inl, ⊎_elim, Body, Header, Kind, Label, Uid}
use Words.{again_all, begin_action, Disk, Effect, Intent, tick_outs, Parts, with_coord, at_uid, uid_number, acts, parent_of, parts_in}
use Words.{restart_outs, numbered, Seen, is_serial}
use Rattle.arj_law_serial.proofs.Terms
use Terms.{World, Office, decided, decided_in, never, at, down, given, said, up, Up, Walks, halted, walks_both, walks_to, nodes_of, Kinds}
use Terms.{SeesDisks, OnlyAnswers, OnlyFound, SeesBoth, Change, Changes, Quietly, change_by, KeepsPart, are_recorded, goes_along}
use Terms.{restart_plain, IsNear, IsStep, near_same, nothing_more, step_halted, step_walk, goes_by, HasAcked, IsDemanded, acked_in}
use Terms.{record_in, records_in}
use Terms.Effects as machine
use Rattle.arj_law_disk_view.proofs.running.Decisions.{Goes}
use Rattle.arj_law_serial.proofs.joint
use joint.Recording.{IsConfirming, PutsOnly, acts_put, are_theirs, message_puts, plainly, tick_puts}
use joint.Removing.{KeepsRecords, removing_walk, stand_here, stop_keeps}
use Rattle.arj_law_serial.specs.joint.Recorded.{WereRecorded}

-- beside what is carried with the machine's state
abbrev pub WithRecords : (Kinds → Office → Seen → Type 0) → Kinds → Office → Seen → Type 0
WithRecords P tops A M = P tops A M × WereRecorded A.world M

module _ (hd : Header) (x : ℕ) (G : World → Seen → Type 0) (P : Kinds → Office → Seen → Type 0) (asked : (W : World) (M : Seen) → G W M →
    (u : Uid) (k : ℕ) → HasAcked M.sent u k → IsDemanded M.sent u) (parts : KeepsPart hd x G P) where
  abbrev Q : Kinds → Office → Seen → Type 0
  Q tops A M = WithRecords P tops A M

  abbrev OfEach : Kinds → (Office → Type 0) → (Kinds → Office → Seen → Type 0) → Seen → Type 0
  OfEach tops D O Z = (B : Office) → D B → SeesBoth x tops B Z → O tops B Z

  -- whoever is newly decided has its record now
  recorded_then : (tops : Kinds) (W V : World) (M N : Seen) → WereRecorded W M → Goes W V → SeesDisks x tops V N → IsStep M N →
      KeepsRecords M N → WereRecorded V N
  recorded_then tops W V M N before goes sees step keeps u n here d = ⊎_elim
      (λ (old : decided W.disk (uid_number u) ≡ true). let had = step.nodes u.node n here in keeps u (before u had.0 had.1 old))
      (λ (some : is_some (V.disk.intent (uid_number u)) ≡ true). inl (by some (at_uid u (let c = n.disk in c.intents)) refl))
      (goes.0 (uid_number u) d)
    where
      by : is_some (V.disk.intent (uid_number u)) ≡ true → (o : Option Intent) → at_uid u (let c = n.disk in c.intents) ≡ o →
          (i : Intent) × (records_in N.nodes u ≡ Some i)
      by some None none = let r = sees.records u.node n here in absurd (never some (ap is_some (r.is u refl ∙ ap nodes_of none)))
      by some (Some i) is = (i, ap (record_in u) here ∙ is)

  module _ (tops : Kinds) (D : Office → Type 0) (W : World) (M : Seen) (goes : (B : Office) → D B →
      Goes W B.world) (before : WereRecorded W M) where
    next : (Z : Seen) → KeepsRecords M Z → IsStep M Z → (B : Office) → D B → SeesBoth x tops B Z → WereRecorded B.world Z
    next Z keeps step B c seen = recorded_then tops W B.world M Z before (goes B c) seen.disks step keeps

    along : (e k : ℕ) (outs : List Effect) (v : Parts) (d : Disk) (N : Seen) →
        Walks (OfEach tops D P) e k outs (Up (OfEach tops D P) k v) d N → Walks (KeepsRecords M) e k outs (Up (KeepsRecords M) k v) d N →
        Walks (IsStep M) e k outs (Up (IsStep M) k v) d N → Walks (OfEach tops D Q) e k outs (Up (OfEach tops D Q) k v) d N
    along e k outs v d N w keeps steps =
        let two = walks_both (KeepsRecords M) (IsStep M) e k outs (Up (KeepsRecords M) k v) (Up (IsStep M) k v) d N keeps steps in
        let three = walks_both (OfEach tops D P) (λ Z. KeepsRecords M Z × IsStep M Z) e k outs (Up (OfEach tops D P) k v)
        (λ c Z. Up (KeepsRecords M) k v c Z × Up (IsStep M) k v c Z) d N w two in
        walks_to (λ Z. OfEach tops D P Z × (KeepsRecords M Z × IsStep M Z)) (OfEach tops D Q) e k outs
        (λ c Z. Up (OfEach tops D P) k v c Z × (Up (KeepsRecords M) k v c Z × Up (IsStep M) k v c Z)) (Up (OfEach tops D Q) k v) d N
        (λ Z h B c seen. (h.0 B c seen, next Z h.1.0 h.1.1 B c seen))
        (λ c Z h B changed seen. (h.0 B changed seen, next (up k c v Z) h.1.0 h.1.1 B changed seen)) three

  goes_from : (o : Change) (A B : Office) → OnlyAnswers A B → machine.Whole A.world → (Z : Office) → Changes o B Z → Goes A.world Z.world
  goes_from o A B only whole Z c =
      (let same = only.world in subst (λ W. Goes W Z.world) same (goes_by o B Z (subst machine.Whole (sym same) whole) c))

  abbrev none : Uid → Type 0
  none u = ⊥

  -- a step that removes records of those only whose commits were told to be acknowledged
  walked : (C : Uid → Type 0) (e k : ℕ) (live : Option Parts) (v : Parts) (outs : List Effect) (d : Disk) (M : Seen) →
      let Z = at k d live M in PutsOnly C (IsDemanded M.sent) outs → Walks (KeepsRecords Z) e k outs (Up (KeepsRecords Z) k v) d M
  walked C e k live v outs d M puts =
      removing_walk (at k d live M) k C (IsDemanded M.sent) (λ u on. on) e v outs d M puts (stand_here k d live M)

  pub recorded_part : KeepsPart hd x G Q
  recorded_part = record {
    quiet = λ tops e bs M A walk quiet r both (part, were) B changed seen. (
      parts.quiet tops e bs M A walk quiet r both part B changed seen,
      next tops (Changes Quietly A) A.world M (λ Z c. goes_by Quietly A Z (let z = both.disks in z.whole) c) were (said e bs M)
          (λ u was. was) (quiet_step e bs M) B changed seen,
    );
    stop = λ tops e k d live M A walk r both (part, were) B changed seen. (
      parts.stop tops e k d live M A walk r both part B changed seen,
      next tops (Changes Quietly A) A.world (at k d live M) (λ Z c. goes_by Quietly A Z (let z = both.disks in z.whole) c) were
          (halted e k d M) (stop_keeps k d live M e) (step_halted k d live M e d M (near_same M) (λ down. refl)) B changed seen,
    );
    message = λ tops e k d t v from m outs M A walk n r sent meant is of own both (part, were).
        let p = parts.message tops e k d t v from m outs M A walk n r sent meant is of own both part in
        let h = p.0 in
        let o = change_by x d t m in (
          record {
            office = h.office;
            only = h.only;
            both = h.both;
            along = along tops (Changes o h.office) A.world (up k d t M) (goes_from o A h.office h.only (let z = both.disks in z.whole))
                were e k outs v d M h.along
                (walked (IsConfirming t.coord) e k (Some t) v outs d M (message_puts (IsDemanded M.sent) k d t (are_theirs tops k d t M n)
                from m v outs is (λ u same. asked A.world (up k d t M) r u from
                (record { post = record { from = from; to = k; message = m }; posted = sent; from = refl; acks = ap acked_in same }))))
                (step_walk k d (Some t) M e v outs d M (near_same M) (was_up t) (was_up t));
          },
          p.1,
          p.2,
        );
    act = λ tops e k d t i M A walk n r is free both (part, were).
        let did = acts i d.intents t.coord in
        let p = parts.act tops e k d t i M A walk n r is free both part in
        let h = p.0 in (
          record {
            office = h.office;
            only = h.only;
            both = h.both;
            along = along tops (Changes Quietly h.office) A.world (up k d t M)
                (goes_from Quietly A h.office h.only (let z = both.disks in z.whole)) were e k did.outs (with_coord t did.part) d M h.along
                (walked (IsConfirming t.coord) e k (Some t) (with_coord t did.part) did.outs d M
                (acts_put (IsDemanded M.sent) t.coord (are_theirs tops k d t M n) d.intents i))
                (step_walk k d (Some t) M e (with_coord t did.part) did.outs d M (near_same M) (was_up t) (was_up t));
          },
          p.1,
        );
    begin = λ tops e k d t l how parent M A walk n r new may free kind both (part, were).
        let did = begin_action l how parent (parent_of parent t.coord) t.coord in
        let N : Seen = given l (record { node = k; serial = is_serial how }) M in
        along tops (Changes Quietly A) A.world (up k d t M) (λ B c. goes_by Quietly A B (let z = both.disks in z.whole) c) were e k did.outs
        (with_coord t did.part) d N
        (parts.begin tops e k d t l how parent M A walk n r new may free kind both part)
        (removing_walk (up k d t M) k none (IsDemanded M.sent) (λ u on. on) e (with_coord t did.part) did.outs d N (tt, tt)
        (stand_here k d (Some t) M))
        (step_walk k d (Some t) M e (with_coord t did.part) did.outs d N (given_near l how k M) (was_up t) (was_up t));
    tick = λ tops e k d t M A walk n r both (part, were).
        let outs = tick_outs (record { number = k; disk = d; live = Some t }) t in
        let v = with_coord t (let z = again_all t.coord.doings t.coord in z.part) in
        along tops (Changes Quietly A) A.world (up k d t M) (λ B c. goes_by Quietly A B (let z = both.disks in z.whole) c) were e k outs v d
        M
        (parts.tick tops e k d t M A walk n r both part)
        (walked (IsConfirming t.coord) e k (Some t) v outs d M (tick_puts (IsDemanded M.sent) k d t (are_theirs tops k d t M n)))
        (step_walk k d (Some t) M e v outs d M (near_same M) (was_up t) (was_up t));
    restart = λ tops e k d M A walk r both (part, were).
        let outs = restart_outs hd k (d.inc + 1) d in
        let v = parts_in k (d.inc + 1) d in
        along tops (OnlyFound (are_recorded d.intents) A) A.world (down k d M)
        (λ B c. goes_along (are_recorded d.intents) A.world B.world (let z = both.disks in z.whole) c.along) were e k outs v d M
        (parts.restart tops e k d M A walk r both part)
        (walked none e k None v outs d M (plainly none (IsDemanded M.sent) outs (restart_plain [] hd k d)))
        (step_walk k d None M e v outs d M (near_same M) (λ down. restart_plain [] hd k d) (λ down. refl));
    first = λ tops walk kinds st formed. let f = parts.first tops walk kinds st formed in
        (f.0, f.1, (f.2, λ u n here d. absurd (never d (ap (λ ds. decided_in ds (uid_number u)) f.3))), f.3, f.4);
  }
    where
      quiet_step : (e : ℕ) (bs : List Body) (M : Seen) → IsStep M (said e bs M)
      quiet_step e bs M = record { more = numbered e bs; lines = refl; nodes = λ j n is. (n, is, λ down. refl) }

      given_near : (l : Label) (how : Kind) (k : ℕ) (M : Seen) → IsNear M (given l (record { node = k; serial = is_serial how }) M)
      given_near l how k M = record { more = []; lines = nothing_more M.lines; nodes = λ j. refl }

      was_up : {X : Type 0} (t : Parts) → Some t ≡ None → X
      was_up t is = absurd (let no_way : ◌≡◌ {A = Option Parts} (Some t) None = is in cc no_way)
