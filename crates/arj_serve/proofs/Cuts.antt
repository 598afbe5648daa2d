-- Effects one behind the other: what they say, what they leave of the disk, and where they are cut.
use Rattle.std.proofs.Common.{◌≡◌, ◌∙◌, ◌&&◌, true, List, [], ◌∷◌, ◌++◌, refl, sym, ap, subst}
use Rattle.std.specs.Prelude.{is_some}
use Rattle.std.specs.List.{list_all}
use Rattle.std.proofs.lemmas.Bool.{and_parts}
use Rattle.std.proofs.lemmas.List.{append-nil, append_assoc}
use Rattle.arj_law_store.specs.store.Files.{IsPairOf}
use Rattle.arj_naming.specs.Files.{GivesEntries}
use Rattle.arj_naming.specs.Kept as naming
use Rattle.arj_naming.specs.Said.{said, pair_after, pair_worked}
use Rattle.arj_naming.proofs.Cuts.{said_append}
use Rattle.arj_protocol.specs.Effect.{Disk, Effect, Say, Send, Do, Work, Look, PutInc, Prepare, Commit, Abort, PutIntent, RemoveIntent}
use Rattle.arj_protocol.specs.Effect.{Stop, Before, After, InPart, stopped, worked}
use Rattle.arj_protocol.specs.Says.{AreAll, is_naming_effect, is_names_work}
use Rattle.arj_protocol.specs.Words.role
use Rattle.arj_serve.specs.Did.{AreLocal, Call, IsCut, disk_after}
use Rattle.arj_serve.specs.Kept.{IsDiskOf}
use Rattle.arj_serve.specs.Objects.{AreObjects}
use Rattle.arj_disk.specs.declared.slot.Role.TheVariants as slot_role
use Rattle.arj_store.specs.declared.store.ObjectStore.{Ghosts}

pub after_append : (a b : List Effect) (d : Disk) → disk_after (a ++ b) d ≡ disk_after b (disk_after a d)
after_append [] b d = refl
after_append (Say t ∷ es) b d = after_append es b d
after_append (Send to m ∷ es) b d = after_append es b d
after_append (Do w ∷ es) b d = after_append es b (worked w d)

pub local_append : (a b : List Effect) → AreLocal a → AreLocal b → AreLocal (a ++ b)
local_append [] b la lb = lb
local_append (Say t ∷ es) b la lb = local_append es b la lb
local_append (Send to m ∷ es) b la lb = absurd la
local_append (Do w ∷ es) b la lb = local_append es b la lb

module _ {O : Type 0} (o : Ghosts O) (call : Call O) (d : Disk) where
  -- nothing is done yet, and a read comes first
  pub look_cut : (outs back : List Effect) → outs ≡ Do Look ∷ back → IsDiskOf o (is_some call.old.naming) call.left d →
      call.after ≡ call.before → IsCut o outs call d
  look_cut outs back are is lines =
      record {
        front = [];
        work = Look;
        back = back;
        how = Before;
        are = are;
        local = tt;
        lines = lines ∙ sym (append-nil call.before);
        disk =
            is;
      }

  pub cut_front : (a b : List Effect) → IsCut o a call d → IsCut o (a ++ b) call d
  cut_front a b c = record {
    front = c.front;
    work = c.work;
    back = c.back ++ b;
    how = c.how;
    are = ap (λ es. es ++ b) c.are ∙ append_assoc c.front (Do c.work ∷ c.back) b;
    local = c.local;
    lines = c.lines;
    disk = c.disk;
  }

  pub cut_back : (a b : List Effect) → AreLocal a → IsCut o b (record call { before = call.before ++ said a }) (disk_after a d) →
      IsCut o (a ++ b) call d
  cut_back a b local c = record {
    front = a ++ c.front;
    work = c.work;
    back = c.back;
    how = c.how;
    are = ap (λ es. a ++ es) c.are ∙ sym (append_assoc a c.front (Do c.work ∷ c.back));
    local = local_append a c.front local c.local;
    lines = c.lines ∙ append_assoc call.before (said a) (said c.front) ∙ ap (λ ls. call.before ++ ls) (sym (said_append a c.front));
    disk = subst (λ x. IsDiskOf o (is_some call.old.naming) call.left (stopped c.how c.work x)) (sym (after_append a c.front d)) c.disk;
  }

-- ---- naming's effects

-- its parts
names_parts : (e : Effect) (es : List Effect) → AreAll is_naming_effect (e ∷ es) → (is_naming_effect e ≡ true) × AreAll is_naming_effect es
names_parts e es all = and_parts (is_naming_effect e) (list_all is_naming_effect es) all

pub names_local : (es : List Effect) → AreAll is_naming_effect es → AreLocal es
names_local [] all = tt
names_local (Say b ∷ es) all = names_local es (names_parts (Say b) es all).1
names_local (Send to m ∷ es) all = absurd (cc (names_parts (Send to m) es all).0)
names_local (Do w ∷ es) all = names_local es (names_parts (Do w) es all).1

-- work on entries leaves all else
work_is : (w : Work) (d : Disk) → is_names_work w ≡ true → worked w d ≡ record d { names = pair_worked w d.names }
work_is Look d own = refl
work_is (PutInc i) d own = absurd (cc own)
work_is (Prepare role.Store act states) d own = absurd (cc own)
work_is (Prepare role.Names act states) d own = refl
work_is (Commit role.Store act) d own = absurd (cc own)
work_is (Commit role.Names act) d own = refl
work_is (Abort role.Store act) d own = absurd (cc own)
work_is (Abort role.Names act) d own = refl
work_is (PutIntent u i) d own = absurd (cc own)
work_is (RemoveIntent u) d own = absurd (cc own)

stop_is : (how : Stop) (w : Work) (d : Disk) → is_names_work w ≡ true →
    stopped how w d ≡ record d { names = naming.pair_stopped how w d.names }
stop_is Before w d own = refl
stop_is After w d own = work_is w d own
stop_is (InPart which) Look d own = refl
stop_is (InPart which) (PutInc i) d own = absurd (cc own)
stop_is (InPart which) (Prepare r act states) d own = refl
stop_is (InPart which) (Commit role.Store act) d own = absurd (cc own)
stop_is (InPart which) (Commit role.Names act) d own = refl
stop_is (InPart which) (Abort r act) d own = refl
stop_is (InPart which) (PutIntent u i) d own = absurd (cc own)
stop_is (InPart which) (RemoveIntent u) d own = absurd (cc own)

pub names_after : (es : List Effect) (d : Disk) → AreAll is_naming_effect es → disk_after es d ≡ record d { names = pair_after es d.names }
names_after [] d all = refl
names_after (Say b ∷ es) d all = names_after es d (names_parts (Say b) es all).1
names_after (Send to m ∷ es) d all = absurd (cc (names_parts (Send to m) es all).0)
names_after (Do w ∷ es) d all =
    let own = names_parts (Do w) es all in
    ap (disk_after es) (work_is w d own.0) ∙ names_after es (record d { names = pair_worked w d.names }) own.1

front_all : (a : List Effect) (w : Work) (b : List Effect) → AreAll is_naming_effect (a ++ Do w ∷ b) →
    AreAll is_naming_effect a × (is_names_work w ≡ true)
front_all [] w b all = (refl, (names_parts (Do w) b all).0)
front_all (e ∷ es) w b all =
    let own = names_parts e (es ++ Do w ∷ b) all in
    let rest = front_all es w b own.1 in
    ((λ i. own.0 i && rest.0 i), rest.1)

-- a cut of naming is one of its node
pub names_cut : {O : Type 0} (o : Ghosts O) (call : Call O) (d : Disk) (outs : List Effect) → is_some call.old.naming ≡ true →
    AreAll is_naming_effect outs
    → IsPairOf (o.pair call.left slot_role.Store) d.store → AreObjects d.store →
    naming.IsCut outs d.names (o.pair call.left slot_role.Names) call.before call.after →
    GivesEntries (o.pair call.left slot_role.Names) → IsCut o outs call d
names_cut o call d outs named all store objects c gives =
    let own = front_all c.front c.work c.back (subst (AreAll is_naming_effect) c.are all) in
    let there : disk_after c.front d ≡ record d { names = pair_after c.front d.names } = names_after c.front d own.0 in
    record {
      front = c.front;
      work = c.work;
      back = c.back;
      how = c.how;
      are = c.are;
      local = names_local c.front own.0;
      lines = c.lines;
      disk = subst (λ b. IsDiskOf o b call.left (stopped c.how c.work (disk_after c.front d))) (sym named)
          (subst (IsDiskOf o true call.left) (sym (ap (stopped c.how c.work) there ∙ stop_is c.how c.work (record d {
            names =
                pair_after c.front d.names;
          }) own.1))
          (record { store = store; objects = objects; names = (c.pair, gives) }));
    }
