use Rattle.std.proofs.Common.{None, get_or}
use Rattle.std.specs.Prelude.{IsSomeAnd}
use Rattle.arj_clean.proofs.Taken.{all_of_taken, number_at, numbers_taken}
use Rattle.arj_clean.specs.Clean.{HoldsLast}
use Rattle.arj_last.specs.State.{IsLast}
use Rattle.arj_saved.specs.Saved.{disks_of}
use Rattle.arj_clean.proofs.clean.are_stores_clean.Goals as goal

pub returns-in_default : goal.returns-in_default
returns-in_default c = λ files o saved is.
    let stands = saved.stands in
    let none : IsSomeAnd None (IsLast c.args.saved.now.header.now c.args.saved.now.lines.now c.args.x) =
    rw c.in_default.is at (c.in_ok-last.ensures stands.changes stands.writes saved.readable o is) in
    absurd none

pub loop-store-preserved : goal.loop-store-preserved
loop-store-preserved c = λ files o saved is.
    let header = c.args.saved.now.header.now in
    let lines = c.args.saved.now.lines.now in
    let stands = saved.stands in
    let last : IsLast header lines c.args.x c.in-Some.last =
    rw c.in-Some.is at (c.in_ok-last.ensures stands.changes stands.writes saved.readable o is) in
    let holds : HoldsLast header lines (disks_of files) c.args.x (get_or c.args.stores.now c.loop-store.store-index 0) = rw c.if-not-clean.false at (c.in_ok-clean.ensures files saved last) in
    numbers_taken (HoldsLast header lines (disks_of files) c.args.x) c.args.stores.now c.loop-store.store-index c.loop-store-test.true
    (c.loop-store.invariant files o saved is) holds

pub returns-then-not-clean : goal.returns-then-not-clean
returns-then-not-clean c = λ files o saved is h.
    let header = c.args.saved.now.header.now in
    let lines = c.args.saved.now.lines.now in
    let stands = saved.stands in
    let last : IsLast header lines c.args.x c.in-Some.last =
    rw c.in-Some.is at (c.in_ok-last.ensures stands.changes stands.writes saved.readable o is) in
    let no : HoldsLast header lines (disks_of files) c.args.x (get_or c.args.stores.now c.loop-store.store-index 0) → ⊥ = rw c.if-not-clean.true at (c.in_ok-clean.ensures files saved last) in
    no (number_at (HoldsLast header lines (disks_of files) c.args.x) c.args.stores.now c.loop-store.store-index c.loop-store-test.true h)

pub returns : goal.returns
returns c = λ files o saved is.
    all_of_taken (HoldsLast c.args.saved.now.header.now c.args.saved.now.lines.now (disks_of files) c.args.x) c.args.stores.now c.loop-store.store-index
    c.loop-store-test.false (c.loop-store.invariant files o saved is)
