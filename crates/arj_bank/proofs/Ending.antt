-- What a run of a bank left.
use Rattle.std.proofs.Common.{◌≡◌, List, [], ◌++◌, inr, refl, sym}
use Rattle.std.specs.Prelude.{Result, Ok, Err, IfOk, OnOk}
use Rattle.std.proofs.lemmas.List.{append-nil}
use Rattle.arj_bank.specs.Bank.{HaveBeenRead, Left, RanBank, WantsMemory}
use Rattle.arj_disk.specs.declared.disk.Disk as disk
use Rattle.arj_gen.specs.declared.bank.TheConstants.{NODES}
use Rattle.arj_loop.specs.declared.machine.Machine.{Ghosts}
use Rattle.arj_world.proofs.Disks.{moved_none}

-- what an answer has and what holds beside it
pub if_ok_with : {T E : Type 0} (r : Result T E) (P R : T → Type 0) (Q : Type 0) → ((value : T) → P value → Q → R value) → IfOk r P →
    OnOk r Q → IfOk r R
if_ok_with (Ok value) P R Q f p q = f value p q
if_ok_with (Err fault) P R Q f p q = tt

-- what an Ok value is, it is by other words
pub if_ok_so : {T E : Type 0} (r : Result T E) (P R : T → Type 0) → ((value : T) → P value → R value) → IfOk r P → IfOk r R
if_ok_so (Ok value) P R f p = f value p
if_ok_so (Err fault) P R f p = tt

-- no disk was read
pub read_none : {D : Type 0} (d : disk.Ghosts D) (rack : List D) → HaveBeenRead d rack rack
read_none d rack = record { files = refl; moved = moved_none d NODES rack }

-- memory was wanting for the sum
pub wants_sum : {D M : Type 0} (m : Ghosts M D) (d : disk.Ghosts D) (n : _) (first : List D) (now : Left D M) (after : List D) →
    RanBank m n first now → HaveBeenRead d now.rack after → WantsMemory m d n first after
wants_sum m d n first now after bank read =
    let whole = bank.ran in record {
      mid = now.rack;
      comes = inr (inr (
        bank.events,
        bank.are,
        record {
          done = bank.events;
          rest = [];
          cut = sym (append-nil bank.events);
          machine = whole.machine;
          mid = now.rack;
          journal =
              now.journal;
          ran = whole.ran;
          since = refl;
        },
      ));
      read = read;
    }
