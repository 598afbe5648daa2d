use Rattle.std.proofs.Common.{◌∙◌, ap, refl, sym, subst, arith}
use Rattle.arj_disk.specs.declared.slot.Role.{Role}
use Rattle.arj_disk.specs.declared.slot.Role.TheVariants.{Names}
use Rattle.arj_naming.specs.Confirming.{prepare_by}
use Rattle.arj_naming.specs.Entries.{AreEntries}
use Rattle.arj_naming.proofs.Gives.{answer_gives, prepare_gives}
use Rattle.arj_naming.proofs.Known.{entries_to, as_many, known_all, added_all, all_small}
use Rattle.arj_naming.proofs.Store.{on_err, cut_part, prepare_cut, prepared_done, prepared_pair, prepared_part, prepared_reply}
use Rattle.arj_naming.proofs.Store.{refused_done, refused_reply}
use Rattle.arj_protocol.specs.Confirm.{confirms}
use Rattle.arj_protocol.specs.Effect.{pair_prepared}
use Rattle.arj_store.specs.Pair as files
use Rattle.arj_law_store.specs.store.Files.{IsPairOf}
use Rattle.arj_naming.proofs.naming.Naming.prepare.Goals as goal

pub prepare-requires-clause-sizes : goal.prepare-requires-clause-sizes
prepare-requires-clause-sizes g c = all_small c.args.states c.requires.states.each

pub prepare-requires-clause-few : goal.prepare-requires-clause-few
prepare-requires-clause-few g c =
    let P : Role → files.Pair = λ r. g.O.ObjectStore.pair (g.D.Disk.file c.args.disk.now) r in
    let good : AreEntries c.args.self.now.pair = subst (λ k. AreEntries k.pair) c.self.view_is c.are_entries.ensures in
    c.known_objects.ensures.few (P (g.O.ObjectStore.own_role c.self.inside.store)) c.args.states (entries_to 256) (omega (arith, as_many 256))
    (λ u known. known_all (P Names) c.args.self.now.pair c.requires.stands.pair good u (subst (λ r. files.IsKnown (P r) u) (ap (λ k. g.O.ObjectStore.own_role k.store) c.self.view_is ∙ c.requires.stands.role_is) known)) (λ u added. added_all c.args.states c.requires.states.each u added)

pub returns-in_err-answer-clause-stopped : goal.returns-in_err-answer-clause-stopped
returns-in_err-answer-clause-stopped g c =
    let P : Role → files.Pair = λ r. g.O.ObjectStore.pair (g.D.Disk.file c.args.disk.now) r in
    let Q : Role → files.Pair = λ r. g.O.ObjectStore.pair (g.D.Disk.file c.prepare.new.disk) r in
    let own = g.O.ObjectStore.own_role c.self.inside.store in
    λ stop. prepare_cut P Q own (ap (λ k. g.O.ObjectStore.own_role k.store) c.self.view_is ∙ c.requires.stands.role_is) c.args.self.now.pair c.requires.stands.pair c.args.top c.args.states c.args.self.now.part (subst (λ k. AreEntries k.pair) c.self.view_is c.are_entries.ensures) c.requires.states c.requires.first (g.met.O.ObjectStore.sound Names (g.D.Disk.file c.args.disk.now) c.requires.stands.formed) c.args.out.now c.in_err-answer.ensures.fault

pub returns-in_err-answer-clause-fault : goal.returns-in_err-answer-clause-fault
returns-in_err-answer-clause-fault g c =
    let P : Role → files.Pair = λ r. g.O.ObjectStore.pair (g.D.Disk.file c.args.disk.now) r in
    let Q : Role → files.Pair = λ r. g.O.ObjectStore.pair (g.D.Disk.file c.prepare.new.disk) r in
    let own = g.O.ObjectStore.own_role c.self.inside.store in
    on_err c.from_residual.result (cut_part (prepare_by c.args.top c.args.states c.args.self.now.pair c.args.self.now.part).outs c.args.self.now.pair (Q Names) c.args.out.now c.args.out.now (prepare_cut P Q own (ap (λ k. g.O.ObjectStore.own_role k.store) c.self.view_is ∙ c.requires.stands.role_is) c.args.self.now.pair c.requires.stands.pair c.args.top c.args.states c.args.self.now.part (subst (λ k. AreEntries k.pair) c.self.view_is c.are_entries.ensures) c.requires.states c.requires.first (g.met.O.ObjectStore.sound Names (g.D.Disk.file c.args.disk.now) c.requires.stands.formed) c.args.out.now c.in_err-answer.ensures.fault))

pub returns-in_err-answer-clause-entries : goal.returns-in_err-answer-clause-entries
returns-in_err-answer-clause-entries g c =
    let P : Role → files.Pair = λ r. g.O.ObjectStore.pair (g.D.Disk.file c.args.disk.now) r in
    let Q : Role → files.Pair = λ r. g.O.ObjectStore.pair (g.D.Disk.file c.prepare.new.disk) r in
    let own = g.O.ObjectStore.own_role c.self.inside.store in
    prepare_gives P Q own (ap (λ k. g.O.ObjectStore.own_role k.store) c.self.view_is ∙ c.requires.stands.role_is) c.args.self.now.pair c.requires.stands.pair (subst (λ k. AreEntries k.pair) c.self.view_is c.are_entries.ensures) c.args.top c.args.states c.requires.states c.in_err-answer.ensures.fault

pub returns-in-Some-clause-done : goal.returns-in-Some-clause-done
returns-in-Some-clause-done g c =
    let P : Role → files.Pair = λ r. g.O.ObjectStore.pair (g.D.Disk.file c.args.disk.now) r in
    let Q : Role → files.Pair = λ r. g.O.ObjectStore.pair (g.D.Disk.file c.prepare.new.disk) r in
    let own = g.O.ObjectStore.own_role c.self.inside.store in
    refused_done P Q own (ap (λ k. g.O.ObjectStore.own_role k.store) c.self.view_is ∙ c.requires.stands.role_is) c.args.self.now.pair c.requires.stands.pair c.args.top c.args.states c.args.self.now.part (subst (λ k. AreEntries k.pair) c.self.view_is c.are_entries.ensures) c.requires.states c.requires.first (g.met.O.ObjectStore.sound Names (g.D.Disk.file c.args.disk.now) c.requires.stands.formed) c.args.self.now (record { part = c.self.inside.memory.part; pair = c.self.inside.memory.entries; store = c.prepare.new.self }) c.args.out.now c.in_ok-answer.answer c.in-Some.refused refl (ap (λ k. k.part) c.self.view_is) (ap (λ k. k.pair) c.self.view_is) c.in-Some.ensures c.in_ok-answer.ensures.answer

pub returns-in-Some-clause-reply : goal.returns-in-Some-clause-reply
returns-in-Some-clause-reply g c =
    let P : Role → files.Pair = λ r. g.O.ObjectStore.pair (g.D.Disk.file c.args.disk.now) r in
    let Q : Role → files.Pair = λ r. g.O.ObjectStore.pair (g.D.Disk.file c.prepare.new.disk) r in
    let own = g.O.ObjectStore.own_role c.self.inside.store in
    refused_reply P Q own (ap (λ k. g.O.ObjectStore.own_role k.store) c.self.view_is ∙ c.requires.stands.role_is) c.args.self.now.pair c.requires.stands.pair c.args.top c.args.states c.args.self.now.part (subst (λ k. AreEntries k.pair) c.self.view_is c.are_entries.ensures) c.requires.states c.requires.first (g.met.O.ObjectStore.sound Names (g.D.Disk.file c.args.disk.now) c.requires.stands.formed) c.in_ok-answer.answer c.in-Some.refused c.in-Some.ensures c.in_ok-answer.ensures.answer

pub returns-in-Some-clause-entries : goal.returns-in-Some-clause-entries
returns-in-Some-clause-entries g c =
    let P : Role → files.Pair = λ r. g.O.ObjectStore.pair (g.D.Disk.file c.args.disk.now) r in
    let Q : Role → files.Pair = λ r. g.O.ObjectStore.pair (g.D.Disk.file c.prepare.new.disk) r in
    let own = g.O.ObjectStore.own_role c.self.inside.store in
    answer_gives P Q own (ap (λ k. g.O.ObjectStore.own_role k.store) c.self.view_is ∙ c.requires.stands.role_is) c.args.self.now.pair c.requires.stands.pair (subst (λ k. AreEntries k.pair) c.self.view_is c.are_entries.ensures) c.args.top c.args.states c.requires.states c.in_ok-answer.answer c.in_ok-answer.ensures.answer

pub returns-in_err-prepared-clause-fault : goal.returns-in_err-prepared-clause-fault
returns-in_err-prepared-clause-fault g c =
    let P : Role → files.Pair = λ r. g.O.ObjectStore.pair (g.D.Disk.file c.args.disk.now) r in
    let Q : Role → files.Pair = λ r. g.O.ObjectStore.pair (g.D.Disk.file c.prepare.new.disk) r in
    let own = g.O.ObjectStore.own_role c.self.inside.store in
    on_err c.from_residual-in_err-prepared.result (prepared_part P Q own (ap (λ k. g.O.ObjectStore.own_role k.store) c.self.view_is ∙ c.requires.stands.role_is) c.args.self.now.pair c.requires.stands.pair c.args.top c.args.states c.args.self.now.part (subst (λ k. AreEntries k.pair) c.self.view_is c.are_entries.ensures) c.requires.states c.requires.first (g.met.O.ObjectStore.sound Names (g.D.Disk.file c.args.disk.now) c.requires.stands.formed) c.in_ok-answer.answer (sym c.refusal.ensures ∙ c.in_default.is) c.in_ok-answer.ensures.answer)

pub returns-in_err-prepared-clause-entries : goal.returns-in_err-prepared-clause-entries
returns-in_err-prepared-clause-entries g c =
    let P : Role → files.Pair = λ r. g.O.ObjectStore.pair (g.D.Disk.file c.args.disk.now) r in
    let Q : Role → files.Pair = λ r. g.O.ObjectStore.pair (g.D.Disk.file c.prepare.new.disk) r in
    let own = g.O.ObjectStore.own_role c.self.inside.store in
    answer_gives P Q own (ap (λ k. g.O.ObjectStore.own_role k.store) c.self.view_is ∙ c.requires.stands.role_is) c.args.self.now.pair c.requires.stands.pair (subst (λ k. AreEntries k.pair) c.self.view_is c.are_entries.ensures) c.args.top c.args.states c.requires.states c.in_ok-answer.answer c.in_ok-answer.ensures.answer

pub returns-clause-done : goal.returns-clause-done
returns-clause-done g c =
    let P : Role → files.Pair = λ r. g.O.ObjectStore.pair (g.D.Disk.file c.args.disk.now) r in
    let Q : Role → files.Pair = λ r. g.O.ObjectStore.pair (g.D.Disk.file c.prepare.new.disk) r in
    let own = g.O.ObjectStore.own_role c.self.inside.store in
    prepared_done P Q own (ap (λ k. g.O.ObjectStore.own_role k.store) c.self.view_is ∙ c.requires.stands.role_is) c.args.self.now.pair c.requires.stands.pair c.args.top c.args.states c.args.self.now.part (subst (λ k. AreEntries k.pair) c.self.view_is c.are_entries.ensures) c.requires.states c.requires.first (g.met.O.ObjectStore.sound Names (g.D.Disk.file c.args.disk.now) c.requires.stands.formed) c.in_ok-answer.answer (sym c.refusal.ensures ∙ c.in_default.is) c.in_ok-answer.ensures.answer c.args.self.now (record { part = c.prepared.new.self.part; pair = c.prepared.new.self.entries; store = c.prepare.new.self }) c.args.out.now c.prepared.new.out refl (c.in_ok-prepared.ensures.part ∙ ap (λ k. confirms c.args.top k.part) c.self.view_is) (c.in_ok-prepared.ensures.entries ∙ ap (λ k. pair_prepared c.args.top c.args.states k.pair) c.self.view_is) c.in_ok-prepared.ensures.lines

pub returns-clause-reply : goal.returns-clause-reply
returns-clause-reply g c =
    let P : Role → files.Pair = λ r. g.O.ObjectStore.pair (g.D.Disk.file c.args.disk.now) r in
    let Q : Role → files.Pair = λ r. g.O.ObjectStore.pair (g.D.Disk.file c.prepare.new.disk) r in
    let own = g.O.ObjectStore.own_role c.self.inside.store in
    prepared_reply P Q own (ap (λ k. g.O.ObjectStore.own_role k.store) c.self.view_is ∙ c.requires.stands.role_is) c.args.self.now.pair c.requires.stands.pair c.args.top c.args.states c.args.self.now.part (subst (λ k. AreEntries k.pair) c.self.view_is c.are_entries.ensures) c.requires.states c.requires.first (g.met.O.ObjectStore.sound Names (g.D.Disk.file c.args.disk.now) c.requires.stands.formed) c.in_ok-answer.answer (sym c.refusal.ensures ∙ c.in_default.is) c.in_ok-answer.ensures.answer

pub returns-clause-stands : goal.returns-clause-stands
returns-clause-stands g c =
    let P : Role → files.Pair = λ r. g.O.ObjectStore.pair (g.D.Disk.file c.args.disk.now) r in
    let Q : Role → files.Pair = λ r. g.O.ObjectStore.pair (g.D.Disk.file c.prepare.new.disk) r in
    let own = g.O.ObjectStore.own_role c.self.inside.store in
    record {
      role_is = c.in_ok-answer.ensures.role ∙ (ap (λ k. g.O.ObjectStore.own_role k.store) c.self.view_is ∙ c.requires.stands.role_is);
      keeps = c.in_ok-answer.ensures.keeps;
      formed = subst (λ r. g.O.ObjectStore.formed (g.D.Disk.file c.prepare.new.disk) r) (ap (λ k. g.O.ObjectStore.own_role k.store) c.self.view_is ∙ c.requires.stands.role_is) c.in_ok-answer.ensures.formed;
      pair = subst (IsPairOf (Q Names)) (sym (c.in_ok-prepared.ensures.entries ∙ ap (λ k. pair_prepared c.args.top c.args.states k.pair) c.self.view_is)) (prepared_pair P Q own (ap (λ k. g.O.ObjectStore.own_role k.store) c.self.view_is ∙ c.requires.stands.role_is) c.args.self.now.pair c.requires.stands.pair c.args.top c.args.states c.args.self.now.part (subst (λ k. AreEntries k.pair) c.self.view_is c.are_entries.ensures) c.requires.states c.requires.first (g.met.O.ObjectStore.sound Names (g.D.Disk.file c.args.disk.now) c.requires.stands.formed) c.in_ok-answer.answer (sym c.refusal.ensures ∙ c.in_default.is) c.in_ok-answer.ensures.answer);
    }

pub returns-clause-entries : goal.returns-clause-entries
returns-clause-entries g c =
    let P : Role → files.Pair = λ r. g.O.ObjectStore.pair (g.D.Disk.file c.args.disk.now) r in
    let Q : Role → files.Pair = λ r. g.O.ObjectStore.pair (g.D.Disk.file c.prepare.new.disk) r in
    let own = g.O.ObjectStore.own_role c.self.inside.store in
    answer_gives P Q own (ap (λ k. g.O.ObjectStore.own_role k.store) c.self.view_is ∙ c.requires.stands.role_is) c.args.self.now.pair c.requires.stands.pair (subst (λ k. AreEntries k.pair) c.self.view_is c.are_entries.ensures) c.args.top c.args.states c.requires.states c.in_ok-answer.answer c.in_ok-answer.ensures.answer
