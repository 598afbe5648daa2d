-- What a node's services do is work on states alone.
use Rattle.std.proofs.Common.{◌≡◌, ◌∙◌, ◌&&◌, ℕ, Bool, true, false, List, [], ◌∷◌, ◌++◌, refl, sym}
use Rattle.std.specs.List.{list_all}
use Rattle.std.proofs.lemmas.Bool.{and_parts}
use Rattle.arj_parts.specs.Works.{is_state_effect, is_state_work}
use Rattle.arj_protocol.specs.Effect.{Disk, Effect, Say, Send, Do, Work, Look, PutInc, Prepare, Commit, Abort, PutIntent, RemoveIntent}
use Rattle.arj_protocol.specs.Effect.{Stop, Before, After, InPart, stopped, worked}
use Rattle.arj_protocol.specs.Says.{AreAll, is_naming_effect, is_names_work, is_server_effect}
use Rattle.arj_protocol.specs.Words.role
use Rattle.arj_serve.specs.Did.{disk_after}

-- the first of effects, and the others
pub first_and_rest : (test : Effect → Bool) (e : Effect) (es : List Effect) → AreAll test (e ∷ es) → (test e ≡ true) × AreAll test es
first_and_rest test e es all = let parts = and_parts (test e) (list_all test es) all in (parts.0, parts.1)

-- ---- parts

server_effect : (named : Bool) (n : ℕ) (e : Effect) → is_server_effect n e ≡ true → is_state_effect named e ≡ true
server_effect named n (Say b) own = refl
server_effect named n (Send to m) own = refl
server_effect named n (Do w) own = absurd (cc own)

names_work : (w : Work) → is_names_work w ≡ true → is_state_work true w ≡ true
names_work Look own = refl
names_work (PutInc i) own = absurd (cc own)
names_work (Prepare role.Store act states) own = refl
names_work (Prepare role.Names act states) own = refl
names_work (Commit role.Store act) own = refl
names_work (Commit role.Names act) own = refl
names_work (Abort role.Store act) own = refl
names_work (Abort role.Names act) own = refl
names_work (PutIntent top i) own = absurd (cc own)
names_work (RemoveIntent top) own = absurd (cc own)

naming_effect : (e : Effect) → is_naming_effect e ≡ true → is_state_effect true e ≡ true
naming_effect (Say b) own = refl
naming_effect (Send to m) own = refl
naming_effect (Do w) own = names_work w own

all_of : (test other : Effect → Bool) → ((e : Effect) → test e ≡ true → other e ≡ true) → (es : List Effect) → AreAll test es →
    AreAll other es
all_of test other each [] all = refl
all_of test other each (e ∷ es) all = let own = first_and_rest test e es all in λ i. each e own.0 i && all_of test other each es own.1 i

pub server_all : (named : Bool) (n : ℕ) (es : List Effect) → AreAll (is_server_effect n) es → AreAll (is_state_effect named) es
server_all named n = all_of (is_server_effect n) (is_state_effect named) (server_effect named n)

pub naming_all : (es : List Effect) → AreAll is_naming_effect es → AreAll (is_state_effect true) es
naming_all = all_of is_naming_effect (is_state_effect true) naming_effect

-- ---- what such work leaves of a disk

-- the incarnation, the records, and where there is no naming the entries are as before
pub record Leaves (named : Bool) (old new : Disk) : Type 0 where
  pub inc : new.inc ≡ old.inc
  pub intents : new.intents ≡ old.intents
  pub names : named ≡ false → new.names ≡ old.names

as_before : (named : Bool) (d : Disk) → Leaves named d d
as_before named d = record { inc = refl; intents = refl; names = λ none. refl }

then_leaves : (named : Bool) (a b c : Disk) → Leaves named a b → Leaves named b c → Leaves named a c
then_leaves named a b c first second =
    record { inc = second.inc ∙ first.inc; intents = second.intents ∙ first.intents; names = λ none. second.names none ∙ first.names none }

pub worked_leaves : (named : Bool) (w : Work) (d : Disk) → is_state_work named w ≡ true → Leaves named d (worked w d)
worked_leaves named Look d own = as_before named d
worked_leaves named (PutInc i) d own = absurd (cc own)
worked_leaves named (Prepare role.Store act states) d own = record { inc = refl; intents = refl; names = λ none. refl }
worked_leaves named (Prepare role.Names act states) d own =
    record { inc = refl; intents = refl; names = λ none. absurd (cc (sym own ∙ none)) }
worked_leaves named (Commit role.Store act) d own = record { inc = refl; intents = refl; names = λ none. refl }
worked_leaves named (Commit role.Names act) d own = record { inc = refl; intents = refl; names = λ none. absurd (cc (sym own ∙ none)) }
worked_leaves named (Abort role.Store act) d own = record { inc = refl; intents = refl; names = λ none. refl }
worked_leaves named (Abort role.Names act) d own = record { inc = refl; intents = refl; names = λ none. absurd (cc (sym own ∙ none)) }
worked_leaves named (PutIntent top i) d own = absurd (cc own)
worked_leaves named (RemoveIntent top) d own = absurd (cc own)

stopped_leaves : (named : Bool) (how : Stop) (w : Work) (d : Disk) → is_state_work named w ≡ true → Leaves named d (stopped how w d)
stopped_leaves named Before w d own = as_before named d
stopped_leaves named After w d own = worked_leaves named w d own
stopped_leaves named (InPart which) Look d own = as_before named d
stopped_leaves named (InPart which) (PutInc i) d own = as_before named d
stopped_leaves named (InPart which) (Prepare r act states) d own = as_before named d
stopped_leaves named (InPart which) (Commit role.Store act) d own = record { inc = refl; intents = refl; names = λ none. refl }
stopped_leaves named (InPart which) (Commit role.Names act) d own =
    record { inc = refl; intents = refl; names = λ none. absurd (cc (sym own ∙ none)) }
stopped_leaves named (InPart which) (Abort r act) d own = as_before named d
stopped_leaves named (InPart which) (PutIntent top i) d own = as_before named d
stopped_leaves named (InPart which) (RemoveIntent top) d own = as_before named d

pub after_leaves : (named : Bool) (es : List Effect) (d : Disk) → AreAll (is_state_effect named) es → Leaves named d (disk_after es d)
after_leaves named [] d all = as_before named d
after_leaves named (Say b ∷ es) d all = after_leaves named es d (first_and_rest (is_state_effect named) (Say b) es all).1
after_leaves named (Send to m ∷ es) d all = after_leaves named es d (first_and_rest (is_state_effect named) (Send to m) es all).1
after_leaves named (Do w ∷ es) d all =
    let own = first_and_rest (is_state_effect named) (Do w) es all in
    then_leaves named d (worked w d) (disk_after es (worked w d)) (worked_leaves named w d own.0) (after_leaves named es (worked w d) own.1)

-- a front of effects, and the work behind it
pub front_all : (test : Effect → Bool) (front : List Effect) (w : Work) (back : List Effect) → AreAll test (front ++ Do w ∷ back) →
    AreAll test front × (test (Do w) ≡ true)
front_all test [] w back all = (refl, (first_and_rest test (Do w) back all).0)
front_all test (e ∷ es) w back all =
    let own = first_and_rest test e (es ++ Do w ∷ back) all in
    let rest = front_all test es w back own.1 in
    ((λ i. own.0 i && rest.0 i), rest.1)

pub cut_leaves : (named : Bool) (front : List Effect) (w : Work) (back : List Effect) (how : Stop) (d : Disk) →
    AreAll (is_state_effect named) (front ++ Do w ∷ back) → Leaves named d (stopped how w (disk_after front d))
cut_leaves named front w back how d all =
    let own = front_all (is_state_effect named) front w back all in
    then_leaves named d (disk_after front d) (stopped how w (disk_after front d)) (after_leaves named front d own.0) (stopped_leaves named how w (disk_after front d) own.1)

-- a front of effects
pub front_of : (test : Effect → Bool) (es fs : List Effect) → AreAll test (es ++ fs) → AreAll test es
front_of test [] fs all = refl
front_of test (e ∷ es) fs all =
    let own = first_and_rest test e (es ++ fs) all in
    let rest = front_of test es fs own.1 in
    λ i. own.0 i && rest i
