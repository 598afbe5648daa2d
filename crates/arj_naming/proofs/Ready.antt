-- A Confirm in memory, and then the store's part.
use Rattle.std.proofs.Common.{◌≡◌, ◌∙◌, ◌++◌, List, [], refl, sym, subst}
use Rattle.std.proofs.lemmas.List.{append_assoc}
use Rattle.arj_journal.specs.declared.body.Line.{Line}
use Rattle.arj_msg.specs.declared.message.ConfirmedReply.{ConfirmedReply}
use Rattle.arj_naming.specs.Confirming.{IsReady, did_of, prepare_by}
use Rattle.arj_naming.specs.Kept.{Kept, HasDone, IsCut, IsDoneInPart}
use Rattle.arj_naming.specs.Said.{said, pair_after}
use Rattle.arj_naming.proofs.Cuts.{after_append, after_lines, said_append, cut_back, part_back}
use Rattle.arj_protocol.specs.Confirm.{prepared_by}
use Rattle.arj_protocol.specs.Effect.{Effect, Pair, Served, prepare_answer}
use Rattle.arj_protocol.specs.Effect as protocol
use Rattle.arj_protocol.specs.Naming.{Naming}
use Rattle.arj_protocol.specs.Words.{Uid, ObjectState}
use Rattle.arj_store.specs.Pair as files

-- what stands before the store's answer stands before all of its effects
behind : (top : Uid) (states : List ObjectState) (n : Naming) (outs : List Effect) (a : protocol.Prep)
    → (prepared_by top states (record { part = n; outs = outs }) a).outs ≡ outs ++ (prepared_by top states (record {
      part = n;
      outs =
          [];
    }) a).outs
behind top states n outs protocol.Ready = refl
behind top states n outs (protocol.InDoubt u holder) = refl
behind top states n outs (protocol.Already u) = refl
behind top states n outs (protocol.Old u v) = refl

same_part : (top : Uid) (states : List ObjectState) (n : Naming) (outs : List Effect) (a : protocol.Prep)
    → (prepared_by top states (record { part = n; outs = [] }) a).part ≡ (prepared_by top states (record { part = n; outs = outs }) a).part
same_part top states n outs protocol.Ready = refl
same_part top states n outs (protocol.InDoubt u holder) = refl
same_part top states n outs (protocol.Already u) = refl
same_part top states n outs (protocol.Old u v) = refl

same_reply : (top : Uid) (states : List ObjectState) (n : Naming) (outs : List Effect) (a : protocol.Prep)
    → (prepared_by top states (record { part = n; outs = [] }) a).reply ≡ (prepared_by top states (record {
      part = n;
      outs =
          outs;
    }) a).reply
same_reply top states n outs protocol.Ready = refl
same_reply top states n outs (protocol.InDoubt u holder) = refl
same_reply top states n outs (protocol.Already u) = refl
same_reply top states n outs (protocol.Old u v) = refl

module _ (r : Served Naming ConfirmedReply) (top : Uid) (d : Pair) (n : Naming) (before middle : List Line) (states : List ObjectState) (ready : IsReady r top d (record { part = n; before = before; lines = middle }) states) where
  outs_are : r.outs ≡ ready.outs ++ (prepare_by top states d n).outs
  outs_are = (λ i. (ready.is i).outs) ∙ behind top states n ready.outs (prepare_answer top states d)

  pub reply_is : (prepare_by top states d n).reply ≡ r.reply
  reply_is = same_reply top states n ready.outs (prepare_answer top states d) ∙ (λ i. (sym ready.is i).reply)

  still : pair_after ready.outs d ≡ d
  still = after_lines ready.outs d ready.only_lines

  pub ready_done : {O : Type 0} (old between new : Kept O) (after : List Line) → old.pair ≡ d → between.pair ≡ d →
      HasDone (did_of (prepare_by top states d n)) between new middle after → HasDone (did_of r) old new before after
  ready_done old between new after pair_is same done = record {
    part = done.part ∙ (same_part top states n ready.outs (prepare_answer top states d) ∙ (λ i. (sym ready.is i).part));
    lines = done.lines
        ∙ ((λ i. ready.lines i ++ said (prepare_by top states d n).outs)
        ∙ (append_assoc before (said ready.outs) (said (prepare_by top states d n).outs) ∙ ((λ i. before ++ sym (said_append ready.outs (prepare_by top states d n).outs) i) ∙ (λ i. before ++ said (sym outs_are i)))));
    pair = done.pair
        ∙ ((λ i. pair_after (prepare_by top states d n).outs ((same ∙ sym still) i)) ∙ (sym (after_append ready.outs (prepare_by top states d n).outs d) ∙ (λ i. pair_after (sym outs_are i) (sym pair_is i))));
  }

  pub ready_cut : (p : files.Pair) (after : List Line) → IsCut (prepare_by top states d n).outs d p middle after →
      IsCut r.outs d p before after
  ready_cut p after cut =
      subst (λ es. IsCut es d p before after) (sym outs_are)
      (cut_back ready.outs (prepare_by top states d n).outs d p before after (subst (λ x. IsCut (prepare_by top states d n).outs x p (before ++ said ready.outs) after) (sym still) (subst (λ ls. IsCut (prepare_by top states d n).outs d p ls after) ready.lines cut)))

  pub ready_part : (p : files.Pair) → IsDoneInPart (prepare_by top states d n).outs d p → IsDoneInPart r.outs d p
  ready_part p part =
      subst (λ es. IsDoneInPart es d p) (sym outs_are) (part_back ready.outs (prepare_by top states d n).outs d p (subst (λ x. IsDoneInPart (prepare_by top states d n).outs x p) (sym still) part))
