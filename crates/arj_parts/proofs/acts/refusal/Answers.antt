use Rattle.std.proofs.Common.{◌∙◌, sym, ap, subst}
use Rattle.arj_node.specs.Acting.{IsClass, asked_of}
use Rattle.arj_protocol.specs.Step.{refusal_up}
use Rattle.arj_parts.proofs.acts.refusal.Goals as goal

pub returns-in-Begin : goal.returns-in-Begin
returns-in-Begin c =
    λ header class. c.begin_refusal.ensures header c.in-Begin.label ∙ ap (λ a. refusal_up header (asked_of a) c.args.coord.now) (sym c.in-Begin.is)

pub returns-in-Call : goal.returns-in-Call
returns-in-Call c =
    λ header class. c.call_refusal.ensures header (subst (λ a. IsClass header a c.args.class) c.in-Call.is class) ∙ ap (λ a. refusal_up header (asked_of a) c.args.coord.now) (sym c.in-Call.is)

pub returns-in-Include : goal.returns-in-Include
returns-in-Include c =
    λ header class. c.include_refusal.ensures header c.in-Include.store (subst (λ a. IsClass header a c.args.class) c.in-Include.is class) ∙ ap (λ a. refusal_up header (asked_of a) c.args.coord.now) (sym c.in-Include.is)

pub returns-in-Commit : goal.returns-in-Commit
returns-in-Commit c =
    λ header class. c.commit_refusal.ensures header ∙ ap (λ a. refusal_up header (asked_of a) c.args.coord.now) (sym c.in-Commit.is)

pub returns-in-Abort : goal.returns-in-Abort
returns-in-Abort c =
    λ header class. c.abort_refusal.ensures header ∙ ap (λ a. refusal_up header (asked_of a) c.args.coord.now) (sym c.in-Abort.is)

pub returns-in-GiveUp : goal.returns-in-GiveUp
returns-in-GiveUp c =
    λ header class. c.give_up_refusal.ensures header ∙ ap (λ a. refusal_up header (asked_of a) c.args.coord.now) (sym c.in-GiveUp.is)
