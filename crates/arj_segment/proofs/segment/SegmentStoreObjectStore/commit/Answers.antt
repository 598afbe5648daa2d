use Rattle.std.proofs.Common.{◌∙◌, inr}
use Rattle.arj_store.proofs.Ends.{on_err}
use Rattle.arj_segment.specs.Says.{pair_of}
use Rattle.arj_segment.specs.declared.limits.TheConstants.{MOST_SEGMENTS}
use Rattle.arj_segment.proofs.Commits.{at_most, moves_then, whole_or_none}
use Rattle.arj_segment.proofs.segment.SegmentStoreObjectStore.commit.Goals as goal

pub returns-in_err-commit_file-clause-fault : goal.returns-in_err-commit_file-clause-fault
returns-in_err-commit_file-clause-fault g c =
    on_err _ (whole_or_none (pair_of (g.D.Disk.file c.args.disk.now) c.args.self.now.role) (pair_of (g.D.Disk.file c.commit_file.new.disk) c.args.self.now.role) c.args.act c.in_err-commit_file.ensures.fault)

pub returns-in_err-merge-clause-fault : goal.returns-in_err-merge-clause-fault
returns-in_err-merge-clause-fault g c =
    on_err _ (inr (moves_then (pair_of (g.D.Disk.file c.args.disk.now) c.args.self.now.role) (pair_of (g.D.Disk.file c.commit_file.new.disk) c.args.self.now.role) (pair_of (g.D.Disk.file c.merge.new.disk) c.args.self.now.role) c.args.act c.in_ok-commit_file.ensures.moved c.merge.ensures.pair))

pub returns-in_err-merge-clause-whole : goal.returns-in_err-merge-clause-whole
returns-in_err-merge-clause-whole g c =
    on_err _ (inr (moves_then (pair_of (g.D.Disk.file c.args.disk.now) c.args.self.now.role) (pair_of (g.D.Disk.file c.commit_file.new.disk) c.args.self.now.role) (pair_of (g.D.Disk.file c.merge.new.disk) c.args.self.now.role) c.args.act c.in_ok-commit_file.ensures.moved c.merge.ensures.pair))

pub returns-in_err-merge-clause-others : goal.returns-in_err-merge-clause-others
returns-in_err-merge-clause-others g c = λ q other tmp. c.merge.ensures.others q other tmp ∙ c.commit_file.ensures.others q other tmp

pub returns-clause-moved : goal.returns-clause-moved
returns-clause-moved g c =
    moves_then (pair_of (g.D.Disk.file c.args.disk.now) c.args.self.now.role) (pair_of (g.D.Disk.file c.commit_file.new.disk) c.args.self.now.role) (pair_of (g.D.Disk.file c.merge.new.disk) c.args.self.now.role) c.args.act c.in_ok-commit_file.ensures.moved c.merge.ensures.pair

pub returns-clause-few : goal.returns-clause-few
returns-clause-few g c is =
    at_most MOST_SEGMENTS c.args.self.now.role c.merge.new.kept (g.D.Disk.file c.merge.new.disk) c.in_ok-merge.ensures.keeps c.in_ok-merge.ensures.few

pub returns-clause-others : goal.returns-clause-others
returns-clause-others g c = λ q other tmp. c.merge.ensures.others q other tmp ∙ c.commit_file.ensures.others q other tmp
