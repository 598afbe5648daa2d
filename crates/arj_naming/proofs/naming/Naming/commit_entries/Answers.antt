use Rattle.std.proofs.Common.{◌∙◌, ap, inr, sym, subst}
use Rattle.arj_disk.specs.declared.slot.Role.{Role}
use Rattle.arj_disk.specs.declared.slot.Role.TheVariants.{Names}
use Rattle.arj_law_store.specs.store.Files.{IsPairOf}
use Rattle.arj_naming.specs.Entries.{AreEntries}
use Rattle.arj_naming.proofs.Cuts.{part_all}
use Rattle.arj_naming.proofs.Store.{on_err, cut_part, commit_cut, moved}
use Rattle.arj_protocol.specs.Effect.{pair_committed}
use Rattle.arj_protocol.specs.Naming.{end_entries}
use Rattle.arj_protocol.specs.Words.ending
use Rattle.arj_store.specs.Pair as files
use Rattle.arj_naming.proofs.Gives.{commit_gives}
use Rattle.arj_naming.proofs.naming.Naming.commit_entries.Goals as goal

pub returns-in_err-commit-clause-stopped : goal.returns-in_err-commit-clause-stopped
returns-in_err-commit-clause-stopped g c = λ stop.
    let P : Role → files.Pair = λ r. g.O.ObjectStore.pair (g.D.Disk.file c.args.disk.now) r in
    let Q : Role → files.Pair = λ r. g.O.ObjectStore.pair (g.D.Disk.file c.commit.new.disk) r in
    commit_cut P Q (g.O.ObjectStore.own_role c.self.inside.store) (ap (λ k. g.O.ObjectStore.own_role k.store) c.self.view_is ∙ c.requires.stands.role_is) c.args.self.now.pair c.requires.stands.pair c.args.action c.args.out.now (subst (λ k. AreEntries k.pair) c.self.view_is c.are_entries.ensures)
    c.in_err-commit.ensures.fault

pub returns-in_err-commit-clause-fault : goal.returns-in_err-commit-clause-fault
returns-in_err-commit-clause-fault g c =
    let P : Role → files.Pair = λ r. g.O.ObjectStore.pair (g.D.Disk.file c.args.disk.now) r in
    let Q : Role → files.Pair = λ r. g.O.ObjectStore.pair (g.D.Disk.file c.commit.new.disk) r in
    on_err c.from_residual.result (cut_part (end_entries c.args.action ending.Commit) c.args.self.now.pair (Q Names) c.args.out.now c.args.out.now
    (commit_cut P Q (g.O.ObjectStore.own_role c.self.inside.store) (ap (λ k. g.O.ObjectStore.own_role k.store) c.self.view_is ∙ c.requires.stands.role_is) c.args.self.now.pair c.requires.stands.pair c.args.action c.args.out.now (subst (λ k. AreEntries k.pair) c.self.view_is c.are_entries.ensures)
    c.in_err-commit.ensures.fault))

pub returns-in_err-commit-2-clause-fault : goal.returns-in_err-commit-2-clause-fault
returns-in_err-commit-2-clause-fault g c =
    let P : Role → files.Pair = λ r. g.O.ObjectStore.pair (g.D.Disk.file c.args.disk.now) r in
    let Q : Role → files.Pair = λ r. g.O.ObjectStore.pair (g.D.Disk.file c.commit.new.disk) r in
    on_err c.from_residual-in_err-commit-2.result (part_all (end_entries c.args.action ending.Commit) c.args.self.now.pair (Q Names)
    (moved P Q (g.O.ObjectStore.own_role c.self.inside.store) (ap (λ k. g.O.ObjectStore.own_role k.store) c.self.view_is ∙ c.requires.stands.role_is) c.args.self.now.pair c.requires.stands.pair c.args.action (subst (λ k. AreEntries k.pair) c.self.view_is c.are_entries.ensures) c.in_ok-commit.ensures.moved))

pub returns-in_err-say_done-clause-fault : goal.returns-in_err-say_done-clause-fault
returns-in_err-say_done-clause-fault g c =
    let P : Role → files.Pair = λ r. g.O.ObjectStore.pair (g.D.Disk.file c.args.disk.now) r in
    let Q : Role → files.Pair = λ r. g.O.ObjectStore.pair (g.D.Disk.file c.commit.new.disk) r in
    on_err c.from_residual-in_err-say_done.result (part_all (end_entries c.args.action ending.Commit) c.args.self.now.pair (Q Names)
    (moved P Q (g.O.ObjectStore.own_role c.self.inside.store) (ap (λ k. g.O.ObjectStore.own_role k.store) c.self.view_is ∙ c.requires.stands.role_is) c.args.self.now.pair c.requires.stands.pair c.args.action (subst (λ k. AreEntries k.pair) c.self.view_is c.are_entries.ensures) c.in_ok-commit.ensures.moved))

pub returns-clause-stands : goal.returns-clause-stands
returns-clause-stands g c =
    let P : Role → files.Pair = λ r. g.O.ObjectStore.pair (g.D.Disk.file c.args.disk.now) r in
    let Q : Role → files.Pair = λ r. g.O.ObjectStore.pair (g.D.Disk.file c.commit.new.disk) r in
    record {
      role_is = c.in_ok-commit.ensures.role ∙ (ap (λ k. g.O.ObjectStore.own_role k.store) c.self.view_is ∙ c.requires.stands.role_is);
      keeps = c.in_ok-commit.ensures.keeps;
      formed = subst (λ r. g.O.ObjectStore.formed (g.D.Disk.file c.commit.new.disk) r) (ap (λ k. g.O.ObjectStore.own_role k.store) c.self.view_is ∙ c.requires.stands.role_is) c.in_ok-commit.ensures.formed;
      pair = subst (IsPairOf (Q Names)) (sym (c.in_ok-commit-2.ensures ∙ ap (λ k. pair_committed c.args.action k.pair) c.self.view_is))
          (moved P Q (g.O.ObjectStore.own_role c.self.inside.store) (ap (λ k. g.O.ObjectStore.own_role k.store) c.self.view_is ∙ c.requires.stands.role_is) c.args.self.now.pair c.requires.stands.pair c.args.action (subst (λ k. AreEntries k.pair) c.self.view_is c.are_entries.ensures) c.in_ok-commit.ensures.moved);
    }

pub returns-in_err-commit-clause-entries : goal.returns-in_err-commit-clause-entries
returns-in_err-commit-clause-entries g c =
    let P : Role → files.Pair = λ r. g.O.ObjectStore.pair (g.D.Disk.file c.args.disk.now) r in
    let Q : Role → files.Pair = λ r. g.O.ObjectStore.pair (g.D.Disk.file c.commit.new.disk) r in
    commit_gives P Q (g.O.ObjectStore.own_role c.self.inside.store) (ap (λ k. g.O.ObjectStore.own_role k.store) c.self.view_is ∙ c.requires.stands.role_is) c.args.self.now.pair c.requires.stands.pair (subst (λ k. AreEntries k.pair) c.self.view_is c.are_entries.ensures) c.args.action c.in_err-commit.ensures.fault

pub returns-in_err-commit-2-clause-entries : goal.returns-in_err-commit-2-clause-entries
returns-in_err-commit-2-clause-entries g c =
    let P : Role → files.Pair = λ r. g.O.ObjectStore.pair (g.D.Disk.file c.args.disk.now) r in
    let Q : Role → files.Pair = λ r. g.O.ObjectStore.pair (g.D.Disk.file c.commit.new.disk) r in
    commit_gives P Q (g.O.ObjectStore.own_role c.self.inside.store) (ap (λ k. g.O.ObjectStore.own_role k.store) c.self.view_is ∙ c.requires.stands.role_is) c.args.self.now.pair c.requires.stands.pair (subst (λ k. AreEntries k.pair) c.self.view_is c.are_entries.ensures) c.args.action (inr c.in_ok-commit.ensures.moved)

pub returns-in_err-say_done-clause-entries : goal.returns-in_err-say_done-clause-entries
returns-in_err-say_done-clause-entries g c =
    let P : Role → files.Pair = λ r. g.O.ObjectStore.pair (g.D.Disk.file c.args.disk.now) r in
    let Q : Role → files.Pair = λ r. g.O.ObjectStore.pair (g.D.Disk.file c.commit.new.disk) r in
    commit_gives P Q (g.O.ObjectStore.own_role c.self.inside.store) (ap (λ k. g.O.ObjectStore.own_role k.store) c.self.view_is ∙ c.requires.stands.role_is) c.args.self.now.pair c.requires.stands.pair (subst (λ k. AreEntries k.pair) c.self.view_is c.are_entries.ensures) c.args.action (inr c.in_ok-commit.ensures.moved)

pub returns-clause-entries : goal.returns-clause-entries
returns-clause-entries g c =
    let P : Role → files.Pair = λ r. g.O.ObjectStore.pair (g.D.Disk.file c.args.disk.now) r in
    let Q : Role → files.Pair = λ r. g.O.ObjectStore.pair (g.D.Disk.file c.commit.new.disk) r in
    commit_gives P Q (g.O.ObjectStore.own_role c.self.inside.store) (ap (λ k. g.O.ObjectStore.own_role k.store) c.self.view_is ∙ c.requires.stands.role_is) c.args.self.now.pair c.requires.stands.pair (subst (λ k. AreEntries k.pair) c.self.view_is c.are_entries.ensures) c.args.action (inr c.in_ok-commit.ensures.moved)
