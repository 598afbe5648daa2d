use Rattle.std.proofs.Common.{◌∙◌, sym, subst, arith}
use Rattle.arj_prog.specs.declared.place.Place.TheVariants.{Heading, Seeded, Drafting, Over}
use Rattle.arj_prog.specs.declared.reader.ProgItem.TheVariants as item
use Rattle.arj_prog.proofs.Places.{Took, took_head, took_line, took_run, took_seed, took_turns}
use Rattle.arj_prog.proofs.reader.ProgReader.line.Goals as goal

pub returns-in_default-clause-taken : goal.returns-in_default-clause-taken
returns-in_default-clause-taken c =
    let here = sym c.self.view_is ∙ c.in-Heading.is in
    let took = took_head c.in-Heading.header c.heading.new.header c.args.bytes.now (omega arith) (rw c.in_default.is at c.in_ok-header-in-Heading.ensures.ok) in
    subst (λ p. Took p c.args.bytes.now item.Part (Heading c.heading.new.header)) (sym here) took

pub returns-in_default-2-clause-taken : goal.returns-in_default-2-clause-taken
returns-in_default-2-clause-taken c =
    let here = sym c.self.view_is ∙ c.in-Drafting.is in
    let took = took_line c.in-Drafting.draft c.drafting.new.draft c.args.bytes.now (omega arith) (rw c.in_default-2.is at c.in_ok-plan-in-Drafting.ensures.ok) in
    subst (λ p. Took p c.args.bytes.now item.Part (Drafting c.drafting.new.draft)) (sym here) took

pub returns-in-Some-clause-taken : goal.returns-in-Some-clause-taken
returns-in-Some-clause-taken c =
    let here = sym c.self.view_is ∙ c.in-Heading.is in
    let took = took_seed c.in-Heading.header c.heading.new.header c.args.bytes.now c.in-Some.header c.in-Some.seed (omega arith) (rw c.in-Some.is at c.in_ok-header-in-Heading.ensures.ok) in
    subst (λ p. Took p c.args.bytes.now item.Part (Seeded c.in-Some.header c.in-Some.seed)) (sym here) took

pub returns-in_ok-draft-in-Seeded-clause-taken : goal.returns-in_ok-draft-in-Seeded-clause-taken
returns-in_ok-draft-in-Seeded-clause-taken c =
    let here = sym c.self.view_is ∙ c.in-Seeded.is in
    let took = took_turns c.in-Seeded.header c.in-Seeded.seed c.args.bytes.now c.in_ok-draft-in-Seeded.draft (omega arith) c.in_ok-draft-in-Seeded.ensures.ok in
    subst (λ p. Took p c.args.bytes.now item.Part (Drafting c.in_ok-draft-in-Seeded.draft)) (sym here) took

pub returns-in-Some-2-clause-taken : goal.returns-in-Some-2-clause-taken
returns-in-Some-2-clause-taken c =
    let here = sym c.self.view_is ∙ c.in-Drafting.is in
    let took = took_run c.in-Drafting.draft c.drafting.new.draft c.args.bytes.now c.in-Some-2.plan (omega arith) (rw c.in-Some-2.is at c.in_ok-plan-in-Drafting.ensures.ok) in
    subst (λ p. Took p c.args.bytes.now (item.Run c.in-Some-2.plan) Over) (sym here) took
