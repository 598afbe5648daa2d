-- What the store of objects did is what the protocol's node does at a Load, a Prepare, and the end of an action.
use Rattle.std.proofs.Common.{◌≡◌, ◌⊎◌, ◌∙◌, ◌++◌, true, false, List, [], ◌∷◌, ℕ, refl, sym, subst, inr, ⊎_elim, Option, Some, None}
use Rattle.std.specs.Prelude.{IfSome, IsSome, is_some, option_map, if◌then◌else◌}
use Rattle.std.specs.List.{AllByRecursion}
use Rattle.std.proofs.lemmas.List.{append-nil}
use Rattle.arj_base.specs.State.{StateInForm}
use Rattle.arj_disk.specs.FileMap.{FileMap}
use Rattle.arj_disk.specs.Says.{OnlyOfRole, SameOfRole, names}
use Rattle.arj_disk.specs.declared.slot.Role.{Role}
use Rattle.arj_disk.specs.declared.slot.Role.TheVariants.{Store, Names}
use Rattle.arj_law_store.specs.store.Files.{IsPairOf}
use Rattle.arj_law_store.specs.store.Prep.{prep_of}
use Rattle.arj_msg.specs.InForm.{IsObject}
use Rattle.arj_naming.specs.Said.{said}
use Rattle.arj_law_store.proofs.store.Held.{found}
use Rattle.arj_law_store.proofs.store.Pairs.{pair_same, pair_adds, pair_drops, pair_moves, pair_moves_some}
use Rattle.arj_law_store.proofs.store.Refused.{answer_is}
use Rattle.arj_protocol.specs.Ask.{Reply, actor, asked_by, response}
use Rattle.arj_protocol.specs.Coord.{Coord}
use Rattle.arj_protocol.specs.Effect as protocol
use Rattle.arj_protocol.specs.Effect.{Disk, Effect, Say, Send, Do, Look, Prepare, Commit, Abort, Before, After, InPart, Pair, held_at}
use Rattle.arj_protocol.specs.Effect.{holder_of, is_prepared, pair_prepared, pair_committed, pair_aborted, pair_in_part, prepare_answer}
use Rattle.arj_protocol.specs.Node.{Handled, end_states, load_by, load_held, prepare_by, sends_answer, serve, store_told}
use Rattle.arj_protocol.specs.Order.{at_uid}
use Rattle.arj_protocol.specs.Words.{Uid, End, Head, ObjectState, object}
use Rattle.arj_protocol.specs.Words.ask
use Rattle.arj_protocol.specs.Words.body
use Rattle.arj_protocol.specs.Words.ending
use Rattle.arj_protocol.specs.Words.loaded
use Rattle.arj_protocol.specs.Words.message
use Rattle.arj_protocol.specs.Words.prepared
use Rattle.arj_protocol.specs.Words.role
use Rattle.arj_serve.specs.Asked.{IsServed}
use Rattle.arj_serve.specs.Did.{Call, IsCut, disk_after, outs_of}
use Rattle.arj_serve.specs.Ended.{IsDone, IsNumbered, prep_done, prep_reply, prepared_to}
use Rattle.arj_serve.specs.Kept.{IsDiskOf, Leaves, LeavesRole, StandsOn, parts_with}
use Rattle.arj_serve.specs.Objects.{AreObjects, AreOfObjects, IsObjectState}
use Rattle.arj_serve.specs.Parts.{loaded_by}
use Rattle.arj_law_store.specs.store.Reads.{ReadsAs}
use Rattle.arj_serve.proofs.Cuts.{look_cut}
use Rattle.arj_serve.proofs.Objects.{new_objects, objects_aborted, objects_committed, objects_in_part, objects_prepared}
use Rattle.arj_serve.proofs.Places.{place_same, place_store}
use Rattle.arj_serve.proofs.Roles.{KeepsOn, Stays, formed_with, names_go_on, names_stay, naming_goes_on, only_store}
use Rattle.arj_store.specs.Pair as files
use Rattle.arj_store.specs.Pair.{packed, uid_of}
use Rattle.arj_store.specs.declared.answer.Prep.{Prep}
use Rattle.arj_store.specs.declared.answer.Prep.TheVariants as prep
use Rattle.arj_store.specs.declared.answer.Read.{Read}
use Rattle.arj_store.specs.declared.answer.Read.TheVariants as read
use Rattle.arj_store.specs.declared.store.ObjectStore.{Ghosts}

-- ---- load

in_form : (ss : List ObjectState) → AllByRecursion (λ s. IsObjectState s.uid s) ss → AllByRecursion StateInForm ss
in_form [] all = tt
in_form (s ∷ ss) all = (all.0.in_form, in_form ss all.1)

module _ {O : Type 0} (o : Ghosts O) (call : Call O) (d : Disk) (from : ℕ) (c : Coord) (h : Head) (x : ℕ) where
  abbrev load : Handled
  load = serve call.old.number d (parts_with call.old c) from h (ask.Load x)

  pub load_served : (a : Read) → ReadsAs d.store (object x) a → call.new ≡ call.old → call.after ≡ call.before →
      StandsOn o call.new call.left d → IsServed o from load c call d (loaded_by h a)
  load_served (read.State s) reads same lines stands = record {
    place = place_same call same;
    done = Do Look ∷ [];
    local = tt;
    is = (λ i. load_by x d.store from h (parts_with call.old c) (reads.0 i)) ∙ ((λ i. load_held from h (parts_with call.old c) (reads.1 i)) ∙ (λ i. load_held from h (parts_with (sym same i) c) (Some s)));
    lines = lines ∙ sym (append-nil call.before);
    stands = stands;
  }
  load_served (read.InDoubt holder) reads same lines stands = record {
    place = place_same call same;
    done = [];
    local = tt;
    is = (λ i. load_by x d.store from h (parts_with call.old c) (reads i)) ∙ (λ i. load_by x d.store from h (parts_with (sym same i) c) (Some holder));
    lines = lines ∙ sym (append-nil call.before);
    stands = stands;
  }
  load_served read.Absent reads same lines stands = record {
    place = place_same call same;
    looks = Do Look ∷ [];
    are = tt;
    is = (λ i. load_by x d.store from h (parts_with call.old c) (reads.0 i)) ∙ (λ i. load_held from h (parts_with call.old c) (reads.1 i));
    parts = λ e i. parts_with (same i) e;
    lines = lines;
    stands = stands;
  }

  load_looks : (s : Option ObjectState) → (back : List Effect) × (outs_of (load_held from h (parts_with call.old c) s) ≡ Do Look ∷ back)
  load_looks None = ([], refl)
  load_looks (Some s) = (Send from (response (asked_by h) (Reply.Loaded (loaded.State s))) ∷ [], refl)

  -- a stop falls into the read, which comes where no action has prepared the object
  pub load_cut : holder_of (object x) d.store ≡ None → call.after ≡ call.before → IsDiskOf o (is_some call.old.naming) call.left d →
      IsCut o (outs_of load) call d
  load_cut free lines is =
      let looks = load_looks (held_at (object x) d.store) in
      look_cut o call d (outs_of load) looks.0 ((λ i. outs_of (load_by x d.store from h (parts_with call.old c) (free i))) ∙ looks.1) is lines

-- ---- after a call of the store

-- what a call of the store leaves of its files, where it is the node's
pub left_of : {O : Type 0} (o : Ghosts O) (store : O) → o.own_role store ≡ Store → (file left : FileMap) →
    OnlyOfRole (o.own_role store) file left → o.formed left (o.own_role store)
    → LeavesRole o Store file left
left_of o store own file left only formed = subst (λ r. LeavesRole o r file left) own (record { only = only; formed = formed })

module _ {O : Type 0} (o : Ghosts O) (keeps_on : KeepsOn o) (stays : Stays o) (call : Call O) (d : Disk) (stands : StandsOn o call.old call.file d) (only : OnlyOfRole Store call.file call.left) where
  same_names : SameOfRole Names call.file call.left
  same_names = names_stay call.file call.left only

  -- what the files say with another pair of the store
  pub left_disk : (p : Pair) → IsPairOf (o.pair call.left Store) p → AreObjects p →
      IsDiskOf o (is_some call.old.naming) call.left (record d { store = p })
  left_disk p pair objects =
      record {
        store = pair;
        objects = objects;
        names =
            names_go_on o keeps_on stays call.file call.left call.old.naming d.names same_names stands.naming;
      }

  -- and what the services stand on
  pub left_stands : (p : Pair) → call.new ≡ record call.old { store = call.new.store } → o.own_role call.new.store ≡ Store →
      o.keeps call.new.store call.left → o.formed call.left Store
      → IsPairOf (o.pair call.left Store) p → AreObjects p → StandsOn o call.new call.left (record d { store = p })
  left_stands p same own keeps formed pair objects =
      let t : StandsOn o (record call.old { store = call.new.store }) call.left (record d { store = p }) = record {
        role_is = own;
        keeps = keeps;
        formed = formed;
        pair = pair;
        objects = objects;
        naming = naming_goes_on o keeps_on stays call.file call.left call.old.naming d.names same_names stands.naming;
      } in
      subst (λ s. StandsOn o s call.left (record d { store = p })) (sym same) t

  abbrev P : Role → files.Pair
  P r = o.pair call.file r

  abbrev Q : Role → files.Pair
  Q r = o.pair call.left r

  -- what a call of the store leaves of the files
  pub store_leaves : o.formed call.left Store → Leaves o (is_some call.old.naming) call.file call.left
  store_leaves formed = record {
    formed = formed_with o keeps_on stays call.file call.left call.old.naming d.names same_names stands.naming formed;
    others = only_store (is_some call.old.naming) call.file call.left only;
  }

  -- ---- prepare

  module _ (from : ℕ) (c : Coord) (h : Head) (states : List ObjectState) (new : AreOfObjects states) (first : is_prepared (actor h.path) d.store ≡ false)
      (once : (a b u : Uid) → names ((o.pair call.file Store).pend a) u → names ((o.pair call.file Store).pend b) u → a ≡ b) where
    abbrev preparer : Uid
    preparer = actor h.path

    abbrev preparing : Handled
    preparing = serve call.old.number d (parts_with call.old c) from h (ask.Prepare states)

    none_prepared : (P Store).pend preparer ≡ None
    none_prepared = stands.pair.pend preparer ∙ by (at_uid preparer d.store.pend) first
      where
        by : (o : Option (List ObjectState)) → is_some o ≡ false → option_map packed o ≡ None
        by None is = refl
        by (Some states) is = absurd (cc is)

    own_at : (ss : List ObjectState) → AllByRecursion (λ s. IsObjectState s.uid s) ss →
        AllByRecursion (λ s. StateInForm s × IfSome (held_at s.uid d.store) (λ t. StateInForm t × (t.uid ≡ s.uid))) ss
    own_at [] all = tt
    own_at (s ∷ ss) all =
        ((all.0.in_form, by (held_at s.uid d.store) (found IsObjectState s.uid d.store.held stands.objects.held)), own_at ss all.1)
      where
        by : (o : Option ObjectState) → IfSome o (IsObjectState s.uid) → IfSome o (λ t. StateInForm t × (t.uid ≡ s.uid))
        by None held = tt
        by (Some t) held = (held.in_form, held.own)

    -- the store's answer is the protocol's
    pub answer_so : (a : Prep) → files.AnswersPrepare (P Store) (Q Store) preparer states a →
        prepare_answer preparer states d.store ≡ prep_of a
    answer_so a answers =
        answer_is (P Store) d.store preparer stands.pair once (Q Store) states a none_prepared (own_at states new.each) answers

    pub now_prepared : files.AnswersPrepare (P Store) (Q Store) preparer states prep.Prepared →
        IsPairOf (Q Store) (pair_prepared preparer states d.store)
    now_prepared answers = ⊎_elim
        (λ (again : IsSome ((P Store).pend preparer) × files.SamePair (P Store) (Q Store)). absurd (cc (subst IsSome none_prepared again.0)))
        (λ (did : files.Prepares (P Store) (Q Store) preparer states). pair_adds (P Store) (Q Store) d.store preparer states (in_form states new.each) did.adds stands.pair) answers

    pub now_same : files.SamePair (P Store) (Q Store) → IsPairOf (Q Store) d.store
    now_same same = pair_same (P Store) (Q Store) d.store same stands.pair

    prepares_by : (a : protocol.Prep) → prepare_answer preparer states d.store ≡ a → call.new ≡ record call.old { store = call.new.store } →
        preparing ≡ prepare_by call.old.number states from h (parts_with call.new c) a
    prepares_by a is same =
        (λ i. if first i then sends_answer from h (parts_with call.old c) [] (Some (Reply.Prepared prepared.Yes)) else prepare_by call.old.number states from h (parts_with call.old c) (prepare_answer preparer states d.store))
        ∙ ((λ i. prepare_by call.old.number states from h (parts_with call.old c) (is i)) ∙ (λ i. prepare_by call.old.number states from h (parts_with (sym same i) c) a))

    pub prepare_served : (a : protocol.Prep) → prepare_answer preparer states d.store ≡ a →
        call.new ≡ record call.old { store = call.new.store } → call.after ≡ call.before ++ said (prep_done call.old.number preparer states a)
        → StandsOn o call.new call.left (disk_after (prep_done call.old.number preparer states a) d) →
        IsServed o from preparing c call d (prep_reply h a)
    prepare_served protocol.Ready is same lines on =
        record {
          place = place_store call same;
          done = prep_done call.old.number preparer states protocol.Ready;
          local = tt;
          is =
              prepares_by protocol.Ready is same;
          lines = lines;
          stands = on;
        }
    prepare_served (protocol.Already u) is same lines on =
        record {
          place = place_store call same;
          looks = Do Look ∷ [];
          are = tt;
          is = prepares_by (protocol.Already u) is same;
          parts =
              λ e i. parts_with (same i) e;
          lines = lines ∙ append-nil call.before;
          stands = on;
        }
    prepare_served (protocol.Old u v) is same lines on =
        record {
          place = place_store call same;
          done = Do Look ∷ [];
          local = tt;
          is = prepares_by (protocol.Old u v) is same;
          lines =
              lines;
          stands = on;
        }
    prepare_served (protocol.InDoubt u holder) is same lines on =
        record {
          place = place_store call same;
          done = Do Look ∷ [];
          local = tt;
          is = prepares_by (protocol.InDoubt u holder) is same;
          lines =
              lines;
          stands = on;
        }

    -- the store's answer is given, with what the store did
    pub prepared_served : (a : Prep) → files.AnswersPrepare (P Store) (Q Store) preparer states a →
        call.new ≡ record call.old { store = call.new.store } → o.own_role call.new.store ≡ Store → o.keeps call.new.store call.left
        → o.formed call.left Store → call.after ≡ call.before ++ said (prep_done call.old.number preparer states (prep_of a)) →
        IsServed o from preparing c call d (prep_reply h (prep_of a))
    prepared_served a answers same role keeps formed lines = prepare_served (prep_of a) (answer_so a answers) same lines (on a answers)
      where
        on : (a : Prep) → files.AnswersPrepare (P Store) (Q Store) preparer states a →
            StandsOn o call.new call.left (disk_after (prep_done call.old.number preparer states (prep_of a)) d)
        on prep.Prepared answers =
            left_stands (pair_prepared preparer states d.store) same role keeps formed (now_prepared answers) (objects_prepared preparer states d.store stands.objects new)
        on (prep.InDoubt u holder) answers = left_stands d.store same role keeps formed (now_same answers.2) stands.objects
        on (prep.Old u v) answers = left_stands d.store same role keeps formed (now_same answers.2) stands.objects
        on (prep.Already u by) answers = left_stands d.store same role keeps formed (now_same answers.2) stands.objects

    prep_looks : (a : protocol.Prep) →
        (back : List Effect) × (outs_of (prepare_by call.old.number states from h (parts_with call.old c) a) ≡ Do Look ∷ back)
    prep_looks protocol.Ready =
        (Do (Prepare role.Store preparer states) ∷ Say (body.Prepared call.old.number preparer role.Store) ∷ Send from (response (asked_by h) (Reply.Prepared prepared.Yes)) ∷ [], refl)
    prep_looks (protocol.Already u) = ([], refl)
    prep_looks (protocol.Old u v) = (Send from (response (asked_by h) (Reply.Prepared (prepared.Old u.num v))) ∷ [], refl)
    prep_looks (protocol.InDoubt u holder) = (Send from (response (asked_by h) (Reply.Prepared (prepared.InDoubt u.num holder))) ∷ [], refl)

    not_yet : outs_of preparing ≡ outs_of (prepare_by call.old.number states from h (parts_with call.old c) (prepare_answer preparer states d.store))
    not_yet = λ i. outs_of (if first i then sends_answer from h (parts_with call.old c) [] (Some (Reply.Prepared prepared.Yes)) else prepare_by call.old.number states from h (parts_with call.old c) (prepare_answer preparer states d.store))

    -- a stop falls into the reads, or behind the states
    pub prepare_cut : call.after ≡ call.before → files.SamePair (P Store) (Q Store) ⊎ files.Prepares (P Store) (Q Store) preparer states →
        IsCut o (outs_of preparing) call d
    prepare_cut lines = ⊎_elim
        (λ (same : files.SamePair (P Store) (Q Store)). let looks = prep_looks (prepare_answer preparer states d.store) in
        look_cut o call d (outs_of preparing) looks.0 (not_yet ∙ looks.1) (left_disk d.store (now_same same) stands.objects) lines)
        (λ (did : files.Prepares (P Store) (Q Store) preparer states). let answers : files.AnswersPrepare (P Store) (Q Store) preparer states prep.Prepared = inr did in
        record {
          front = Do Look ∷ [];
          work = Prepare role.Store preparer states;
          back = Say (body.Prepared call.old.number preparer role.Store) ∷ Send from (response (asked_by h) (Reply.Prepared prepared.Yes)) ∷ [];
          how = After;
          are = not_yet ∙ (λ i. outs_of (prepare_by call.old.number states from h (parts_with call.old c) (answer_so prep.Prepared answers i)));
          local = tt;
          lines = lines ∙ sym (append-nil call.before);
          disk = left_disk (pair_prepared preparer states d.store) (now_prepared answers) (objects_prepared preparer states d.store stands.objects new);
        })

  -- ---- ends

  module _ (act : Uid) where
    pub commit_cut : call.after ≡ call.before → files.MovesSome (P Store) (Q Store) act ⊎ files.Moves (P Store) (Q Store) act →
        IsCut o (end_states call.old.number act ending.Commit) call d
    commit_cut lines = ⊎_elim
        (λ (some : files.MovesSome (P Store) (Q Store) act). let part =
        pair_moves_some (P Store) (Q Store) d.store act (new_objects act d.store stands.objects).distinct some stands.pair in
        record {
          front = [];
          work = Commit role.Store act;
          back = Say (body.Done call.old.number act role.Store ending.Commit) ∷ [];
          how = InPart part.0;
          are = refl;
          local = tt;
          lines = lines ∙ sym (append-nil call.before);
          disk = left_disk (pair_in_part part.0 act d.store) part.1 (objects_in_part part.0 act d.store stands.objects);
        })
        (λ (all : files.Moves (P Store) (Q Store) act).
        record {
          front = [];
          work = Commit role.Store act;
          back = Say (body.Done call.old.number act role.Store ending.Commit) ∷ [];
          how = After;
          are = refl;
          local = tt;
          lines = lines ∙ sym (append-nil call.before);
          disk = left_disk (pair_committed act d.store) (pair_moves (P Store) (Q Store) d.store act (new_objects act d.store stands.objects).distinct all stands.pair) (objects_committed act d.store stands.objects);
        })

    pub abort_cut : call.after ≡ call.before → files.SamePair (P Store) (Q Store) ⊎ files.Drops (P Store) (Q Store) act →
        IsCut o (end_states call.old.number act ending.Abort) call d
    abort_cut lines = ⊎_elim
        (λ (same : files.SamePair (P Store) (Q Store)).
        record {
          front = [];
          work = Abort role.Store act;
          back = Say (body.Done call.old.number act role.Store ending.Abort) ∷ [];
          how = Before;
          are = refl;
          local = tt;
          lines = lines ∙ sym (append-nil call.before);
          disk = left_disk d.store (pair_same (P Store) (Q Store) d.store same stands.pair) stands.objects;
        })
        (λ (drops : files.Drops (P Store) (Q Store) act).
        record {
          front = [];
          work = Abort role.Store act;
          back = Say (body.Done call.old.number act role.Store ending.Abort) ∷ [];
          how = After;
          are = refl;
          local = tt;
          lines = lines ∙ sym (append-nil call.before);
          disk = left_disk (pair_aborted act d.store) (pair_drops (P Store) (Q Store) d.store act drops stands.pair) (objects_aborted act d.store stands.objects);
        })

    pub committed_done : call.new ≡ record call.old { store = call.new.store } → o.own_role call.new.store ≡ Store →
        o.keeps call.new.store call.left → o.formed call.left Store → files.Moves (P Store) (Q Store) act
        → call.after ≡ call.before ++ said (Say (body.Done call.old.number act role.Store ending.Commit) ∷ []) →
        IsDone o (end_states call.old.number act ending.Commit) call d
    committed_done same own keeps formed moves lines = record {
      local = tt;
      lines = lines;
      stands = left_stands (pair_committed act d.store) same own keeps formed (pair_moves (P Store) (Q Store) d.store act (new_objects act d.store stands.objects).distinct moves stands.pair) (objects_committed act d.store stands.objects);
    }

    pub aborted_done : call.new ≡ record call.old { store = call.new.store } → o.own_role call.new.store ≡ Store →
        o.keeps call.new.store call.left → o.formed call.left Store → files.Drops (P Store) (Q Store) act
        → call.after ≡ call.before ++ said (Say (body.Done call.old.number act role.Store ending.Abort) ∷ []) →
        IsDone o (end_states call.old.number act ending.Abort) call d
    aborted_done same own keeps formed drops lines = record {
      local = tt;
      lines = lines;
      stands = left_stands (pair_aborted act d.store) same own keeps formed (pair_drops (P Store) (Q Store) d.store act drops stands.pair) (objects_aborted act d.store stands.objects);
    }

-- what is prepared already is answered Yes again
pub again_served : {O : Type 0} (o : Ghosts O) (call : Call O) (d : Disk) (from : ℕ) (c : Coord) (h : Head) (states : List ObjectState) →
    is_prepared (actor h.path) d.store ≡ true → call.new ≡ call.old
    → call.after ≡ call.before → StandsOn o call.new call.left d
    → IsServed o from (serve call.old.number d (parts_with call.old c) from h (ask.Prepare states)) c call d (Some (message.Prepared (prepared_to h prepared.Yes)))
again_served {O} o call d from c h states is same lines stands = record {
  place = place_same call same;
  done = [];
  local = tt;
  is = (λ i. if is i then sends_answer from h (parts_with call.old c) [] (Some (Reply.Prepared prepared.Yes)) else prepare_by call.old.number states from h (parts_with call.old c) (prepare_answer (actor h.path) states d.store))
      ∙ (λ i. sends_answer from h (parts_with (sym same i) c) [] (Some (Reply.Prepared prepared.Yes)));
  lines = lines ∙ sym (append-nil call.before);
  stands = stands;
}

-- what isn't prepared doesn't end
pub nothing_done : {O : Type 0} (o : Ghosts O) (call : Call O) (d : Disk) (act : Uid) (end : End) → is_prepared act d.store ≡ false →
    call.after ≡ call.before → StandsOn o call.new call.left d
    → IsDone o (store_told call.old.number act end d.store) call d
nothing_done o call d act end is lines stands =
    let none : [] ≡ store_told call.old.number act end d.store = λ i. if sym is i then end_states call.old.number act end else [] in
    subst (λ es. IsDone o es call d) none (record { local = tt; lines = lines ∙ sym (append-nil call.before); stands = stands })

-- what is prepared ends
pub told_now : (n : ℕ) (act : Uid) (end : End) (d : Pair) → is_prepared act d ≡ true → end_states n act end ≡ store_told n act end d
told_now n act end d is = λ i. if sym is i then end_states n act end else []

-- ---- the number of an object that a store refuses

-- the object of a refusal is one of the states'
refused_number : (p : files.Pair) (act : Uid) (states : List ObjectState) (a : Prep) (u : Uid) →
    AllByRecursion (λ s. IsObjectState s.uid s) states → files.IsRefused p act states a
    → ((s : ObjectState) → files.Refuses p act s a → u ≡ s.uid) → IsObject u.num
refused_number p act [] a u all refused is = absurd refused
refused_number p act (s ∷ ss) a u all refused is = ⊎_elim
    (λ (here : files.Refuses p act s a). subst (λ (w : Uid). IsObject w.num) (sym (is s here)) all.0.number)
    (λ (behind : files.IsClear p act s × files.IsRefused p act ss a). refused_number p act ss a u all.1 behind.1 is) refused

pub numbered : (p q : files.Pair) (act : Uid) (states : List ObjectState) (a : Prep) → AllByRecursion (λ s. IsObjectState s.uid s) states →
    files.AnswersPrepare p q act states a → IsNumbered a
numbered p q act states prep.Prepared all answers = tt
numbered p q act states (prep.InDoubt u holder) all answers =
    refused_number p act states (prep.InDoubt u holder) u all answers.1 (λ s refuses. refuses.0)
numbered p q act states (prep.Old u v) all answers = refused_number p act states (prep.Old u v) u all answers.1 (λ s refuses. refuses.0)
numbered p q act states (prep.Already u by) all answers =
    refused_number p act states (prep.Already u by) u all answers.1 (λ s refuses. refuses.0)
