-- What a call of the store did to the pair of entries, as its effects.
use Rattle.std.proofs.Common.{◌≡◌, ◌⊎◌, ◌∙◌, List, [], ◌∷◌, ◌++◌, refl, sym, ap, subst, inr, ⊎_elim, Some, None, false, Option}
use Rattle.std.specs.Prelude.{OnErr, IsErrOf, Result, Ok, Err, IfSome, IsSome, option_map, is_some, unwrap_or, map}
use Rattle.std.specs.List.{AllByRecursion, IsDistinct}
use Rattle.std.proofs.lemmas.List.{append-nil}
use Rattle.arj_base.specs.State.{StateInForm}
use Rattle.arj_base.specs.Uid.{uid_eq}
use Rattle.arj_disk.specs.declared.slot.Role.{Role}
use Rattle.arj_disk.specs.declared.slot.Role.TheVariants.{Names}
use Rattle.arj_journal.specs.declared.body.Line.{Line}
use Rattle.arj_naming.specs.Confirming.{did_of, prepare_by, refusal_by}
use Rattle.arj_naming.specs.Entries.{AreEntries, AreOfEntries, IsEntryState}
use Rattle.arj_law_store.specs.store.Files.{IsPairOf}
use Rattle.arj_naming.specs.Kept.{Kept, HasDone, IsCut, IsDoneInPart}
use Rattle.arj_naming.specs.Said.{said, pair_after}
use Rattle.arj_naming.proofs.Cuts.{part_all}
use Rattle.arj_law_store.specs.store.Prep.{prep_of}
use Rattle.arj_law_store.proofs.store.Held.{found}
use Rattle.arj_law_store.proofs.store.Pairs.{pair_same, pair_adds, pair_drops, pair_moves, pair_moves_some}
use Rattle.arj_law_store.specs.store.Files.{IsOneOfEach}
use Rattle.arj_law_store.proofs.store.Refused.{answer_is}
use Rattle.arj_protocol.specs.Confirm.{confirms, prepared_by}
use Rattle.arj_protocol.specs.Effect.{Effect, Say, Do, Look, Prepare, Commit, Abort, Before, After, InPart, Pair, held_at, is_prepared}
use Rattle.arj_protocol.specs.Effect.{new_states, pair_prepared, pair_committed, pair_aborted, prepare_answer}
use Rattle.arj_protocol.specs.Effect as protocol
use Rattle.arj_protocol.specs.Naming.{Naming, end_entries}
use Rattle.arj_protocol.specs.Order.{at_uid}
use Rattle.arj_protocol.specs.Words.{Uid, ObjectState, ConfirmedReply}
use Rattle.arj_protocol.specs.Words.body
use Rattle.arj_protocol.specs.Words.confirmed
use Rattle.arj_protocol.specs.Words.ending
use Rattle.arj_protocol.specs.Words.role
use Rattle.arj_store.specs.Pair as files
use Rattle.arj_store.specs.Pair.{packed, uid_of}
use Rattle.arj_store.specs.declared.answer.Prep.{Prep}
use Rattle.arj_store.specs.declared.answer.Prep.TheVariants as prep

pub on_err : {T E : Type 0} {P : Type 0} (r : Result T E) → P → OnErr r P
on_err (Ok x) p = tt
on_err (Err e) p = p

-- a fault is the same one, whatever an answer would have been
pub err_moves : {T S E : Type 0} (e f : E) → IsErrOf {T = T} {E = E} (Err e) f → IsErrOf {T = S} {E = E} (Err e) f
err_moves {T} {S} {E} e f is = let same : e ≡ f = cc is in λ i. Err (same i)

pub cut_part : (outs : List Effect) (d : Pair) (p : files.Pair) (before after : List Line) → IsCut outs d p before after →
    IsDoneInPart outs d p
cut_part outs d p before after c =
    record { front = c.front; back = Do c.work ∷ c.back; are = c.are; pair = inr (c.how, c.work, c.back, refl, c.pair) }

nothing_twice : IsDistinct uid_eq []
unfolding IsDistinct
nothing_twice = tt

pub one_each : (d : Pair) (act : Uid) → AreEntries d → IsOneOfEach d act
one_each d act good = by (at_uid act d.pend) refl (found (λ a states. AreOfEntries states) act d.pend good.pend)
  where
    by : (o : Option (List ObjectState)) → at_uid act d.pend ≡ o → IfSome o AreOfEntries → IsOneOfEach d act
    by None is all = subst (λ o. IsDistinct uid_eq (map uid_of (unwrap_or o []))) (sym is) nothing_twice
    by (Some states) is all = subst (λ o. IsDistinct uid_eq (map uid_of (unwrap_or o []))) (sym is) all.distinct

pub in_form : (ss : List ObjectState) → AllByRecursion (λ s. IsEntryState s.uid s) ss → AllByRecursion StateInForm ss
in_form [] all = tt
in_form (s ∷ ss) all = (all.0.state.in_form, in_form ss all.1)

module _ (P Q : Role → files.Pair) (r : Role) (names_role : r ≡ Names) (d : Pair) (stands : IsPairOf (P Names) d) where
  -- ---- abort

  pub dropped : (act : Uid) → files.Drops (P r) (Q r) act → IsPairOf (Q Names) (pair_aborted act d)
  dropped act drops = pair_drops (P Names) (Q Names) d act (subst (λ k. files.Drops (P k) (Q k) act) names_role drops) stands

  pub abort_cut : (act : Uid) (before : List Line) → files.SamePair (P r) (Q r) ⊎ files.Drops (P r) (Q r) act →
      IsCut (end_entries act ending.Abort) d (Q Names) before before
  abort_cut act before = ⊎_elim
      (λ (same : files.SamePair (P r) (Q r)). record {
        front = [];
        work = Abort role.Names act;
        back = Say (body.Done 1 act role.Names ending.Abort) ∷ [];
        how = Before;
        are = refl;
        pair = pair_same (P Names) (Q Names) d (subst (λ k. files.SamePair (P k) (Q k)) names_role same) stands;
        lines = sym (append-nil before);
      })
      (λ (drops : files.Drops (P r) (Q r) act). record {
        front = [];
        work = Abort role.Names act;
        back = Say (body.Done 1 act role.Names ending.Abort) ∷ [];
        how = After;
        are = refl;
        pair = dropped act drops;
        lines = sym (append-nil before);
      })

  -- ---- commit

  pub moved : (act : Uid) → AreEntries d → files.Moves (P r) (Q r) act → IsPairOf (Q Names) (pair_committed act d)
  moved act good moves =
      pair_moves (P Names) (Q Names) d act (one_each d act good) (subst (λ k. files.Moves (P k) (Q k) act) names_role moves) stands

  pub commit_cut : (act : Uid) (before : List Line) → AreEntries d → files.MovesSome (P r) (Q r) act ⊎ files.Moves (P r) (Q r) act →
      IsCut (end_entries act ending.Commit) d (Q Names) before before
  commit_cut act before good = ⊎_elim
      (λ (some : files.MovesSome (P r) (Q r) act). let part =
      pair_moves_some (P Names) (Q Names) d act (one_each d act good) (subst (λ k. files.MovesSome (P k) (Q k) act) names_role some) stands in
      record {
        front = [];
        work = Commit role.Names act;
        back = Say (body.Done 1 act role.Names ending.Commit) ∷ [];
        how = InPart part.0;
        are = refl;
        pair = part.1;
        lines = sym (append-nil before);
      })
      (λ (all : files.Moves (P r) (Q r) act). record {
        front = [];
        work = Commit role.Names act;
        back = Say (body.Done 1 act role.Names ending.Commit) ∷ [];
        how = After;
        are = refl;
        pair = moved act good all;
        lines = sym (append-nil before);
      })

  -- ---- prepare

  none_prepared : (act : Uid) → is_prepared act d ≡ false → (P Names).pend act ≡ None
  none_prepared act first = stands.pend act ∙ by (at_uid act d.pend) first
    where
      by : (o : Option (List ObjectState)) → is_some o ≡ false → option_map packed o ≡ None
      by None is = refl
      by (Some states) is = absurd (cc is)

  own_at : (states : List ObjectState) → AreEntries d → AllByRecursion (λ s. IsEntryState s.uid s) states →
      AllByRecursion (λ s. StateInForm s × IfSome (held_at s.uid d) (λ t. StateInForm t × (t.uid ≡ s.uid))) states
  own_at [] good all = tt
  own_at (s ∷ ss) good all = ((all.0.state.in_form, by (held_at s.uid d) (found IsEntryState s.uid d.held good.held)), own_at ss good all.1)
    where
      by : (o : Option ObjectState) → IfSome o (IsEntryState s.uid) → IfSome o (λ t. StateInForm t × (t.uid ≡ s.uid))
      by None held = tt
      by (Some t) held = (held.state.in_form, held.state.own)

  module _ (act : Uid) (states : List ObjectState) (n : Naming) (good : AreEntries d) (new : AreOfEntries states) (first : is_prepared act d ≡ false) (sound : files.IsSound Names (P Names)) where
    answer : (a : Prep) → files.AnswersPrepare (P r) (Q r) act states a → prepare_answer act states d ≡ prep_of a
    answer a answers =
        answer_is (P Names) d act stands sound.once (Q Names) states a (none_prepared act first) (own_at states good new.each) (subst (λ k. files.AnswersPrepare (P k) (Q k) act states a) names_role answers)

    -- the protocol's answer is the one to this answer of the store
    answers_so : (a : Prep) → files.AnswersPrepare (P r) (Q r) act states a →
        prepare_by act states d n ≡ prepared_by act states (record { part = n; outs = [] }) (prep_of a)
    answers_so a answers = ap (prepared_by act states (record { part = n; outs = [] })) (answer a answers)

    now_prepared : files.AnswersPrepare (P r) (Q r) act states prep.Prepared → IsPairOf (Q Names) (pair_prepared act states d)
    now_prepared answers = ⊎_elim
        (λ (again : IsSome ((P Names).pend act) × files.SamePair (P Names) (Q Names)). absurd (cc (subst IsSome (none_prepared act first) again.0)))
        (λ (did : files.Prepares (P Names) (Q Names) act states). pair_adds (P Names) (Q Names) d act states (in_form states new.each) did.adds stands) (subst (λ k. files.AnswersPrepare (P k) (Q k) act states prep.Prepared) names_role answers)

    look_first : (a : protocol.Prep) →
        (back : List Effect) × ((prepared_by act states (record { part = n; outs = [] }) a).outs ≡ Do Look ∷ back)
    look_first protocol.Ready = (Do (Prepare role.Names act states) ∷ Say (body.Prepared 1 act role.Names) ∷ [], refl)
    look_first (protocol.InDoubt u holder) = ([], refl)
    look_first (protocol.Already u) = ([], refl)
    look_first (protocol.Old u v) = ([], refl)

    pub prepare_cut : (before : List Line) → files.SamePair (P r) (Q r) ⊎ files.Prepares (P r) (Q r) act states →
        IsCut (prepare_by act states d n).outs d (Q Names) before before
    prepare_cut before = ⊎_elim
        (λ (same : files.SamePair (P r) (Q r)). let look = look_first (prepare_answer act states d) in
        record {
          front = [];
          work = Look;
          back = look.0;
          how = Before;
          are = look.1;
          pair = pair_same (P Names) (Q Names) d (subst (λ k. files.SamePair (P k) (Q k)) names_role same) stands;
          lines = sym (append-nil before);
        })
        (λ (did : files.Prepares (P r) (Q r) act states). let answers : files.AnswersPrepare (P r) (Q r) act states prep.Prepared =
        inr did in
        record {
          front = Do Look ∷ [];
          work = Prepare role.Names act states;
          back = Say (body.Prepared 1 act role.Names) ∷ [];
          how = After;
          are = λ i. (answers_so prep.Prepared answers i).outs;
          pair = now_prepared answers;
          lines = sym (append-nil before);
        })

    -- what is done where the store refuses, and where it doesn't
    pub refused_done : {O : Type 0} (old new : Kept O) (lines : List Line) (a : Prep) (refused : ConfirmedReply) → old.pair ≡ d →
        new.part ≡ n → new.pair ≡ d → Some refused ≡ refusal_by act a → files.AnswersPrepare (P r) (Q r) act states a
        → HasDone (did_of (prepare_by act states d n)) old new lines lines
    refused_done {O} old new lines a refused old_is part_is pair_is is answers = by a is (answers_so a answers)
      where
        by : (b : Prep) → Some refused ≡ refusal_by act b →
            prepare_by act states d n ≡ prepared_by act states (record { part = n; outs = [] }) (prep_of b) →
            HasDone (did_of (prepare_by act states d n)) old new lines lines
        by prep.Prepared never so = absurd (cc never)
        by (prep.InDoubt uid holder) is so =
            record {
              part = part_is ∙ (λ i. (sym so i).part);
              lines = sym (append-nil lines) ∙ (λ i. lines ++ said (sym so i).outs);
              pair =
                  pair_is ∙ (λ i. pair_after (sym so i).outs (sym old_is i));
            }
        by (prep.Already uid by_act) is so =
            record {
              part = part_is ∙ (λ i. (sym so i).part);
              lines = sym (append-nil lines) ∙ (λ i. lines ++ said (sym so i).outs);
              pair =
                  pair_is ∙ (λ i. pair_after (sym so i).outs (sym old_is i));
            }
        by (prep.Old uid v) is so =
            record {
              part = part_is ∙ (λ i. (sym so i).part);
              lines = sym (append-nil lines) ∙ (λ i. lines ++ said (sym so i).outs);
              pair =
                  pair_is ∙ (λ i. pair_after (sym so i).outs (sym old_is i));
            }

    pub refused_reply : (a : Prep) (refused : ConfirmedReply) → Some refused ≡ refusal_by act a →
        files.AnswersPrepare (P r) (Q r) act states a → Some refused ≡ (prepare_by act states d n).reply
    refused_reply a refused is answers = by a is (answers_so a answers)
      where
        by : (b : Prep) → Some refused ≡ refusal_by act b →
            prepare_by act states d n ≡ prepared_by act states (record { part = n; outs = [] }) (prep_of b) →
            Some refused ≡ (prepare_by act states d n).reply
        by prep.Prepared never so = absurd (cc never)
        by (prep.InDoubt uid holder) is so = is ∙ (λ i. (sym so i).reply)
        by (prep.Already uid by_act) is so = is ∙ (λ i. (sym so i).reply)
        by (prep.Old uid v) is so = is ∙ (λ i. (sym so i).reply)

    -- the answer is Prepared where it isn't refused
    prepared_so : (a : Prep) → refusal_by act a ≡ None → files.AnswersPrepare (P r) (Q r) act states a →
        files.AnswersPrepare (P r) (Q r) act states prep.Prepared
    prepared_so prep.Prepared is answers = answers
    prepared_so (prep.InDoubt uid holder) never answers = absurd (cc never)
    prepared_so (prep.Already uid by_act) never answers = absurd (cc never)
    prepared_so (prep.Old uid v) never answers = absurd (cc never)

    module _ (a : Prep) (is : refusal_by act a ≡ None) (answers : files.AnswersPrepare (P r) (Q r) act states a) where
      so : prepare_by act states d n ≡ prepared_by act states (record { part = n; outs = [] }) protocol.Ready
      so = answers_so prep.Prepared (prepared_so a is answers)

      pub prepared_pair : IsPairOf (Q Names) (pair_prepared act states d)
      prepared_pair = now_prepared (prepared_so a is answers)

      pub prepared_done : {O : Type 0} (old new : Kept O) (before after : List Line) → old.pair ≡ d → new.part ≡ confirms act n →
          new.pair ≡ pair_prepared act states d → after ≡ before ++ said (Say (body.Prepared 1 act role.Names) ∷ [])
          → HasDone (did_of (prepare_by act states d n)) old new before after
      prepared_done old new before after old_is part_is pair_is lines_are = record {
        part = part_is ∙ (λ i. (sym so i).part);
        lines = lines_are ∙ (λ i. before ++ said (sym so i).outs);
        pair = pair_is ∙ (λ i. pair_after (sym so i).outs (sym old_is i));
      }

      pub prepared_reply : Some confirmed.Yes ≡ (prepare_by act states d n).reply
      prepared_reply = λ i. (sym so i).reply

      pub prepared_part : IsDoneInPart (prepare_by act states d n).outs d (Q Names)
      prepared_part =
          part_all (prepare_by act states d n).outs d (Q Names) (subst (IsPairOf (Q Names)) (sym (ap (λ t. pair_after t.outs d) so)) prepared_pair)
