-- What naming does with a Bind, a Record and a Hello, in the machine.
use Rattle.std.specs.Prelude.{◌≡◌, ◌<◌, ℕ, Bool, false}
use Rattle.arj_protocol.specs.Words.{Uid, Path, Binding, Entry}
use Rattle.arj_protocol.specs.Ask.{top_of}
use Rattle.arj_protocol.specs.Order.{binding_number}
use Rattle.arj_protocol.specs.Named.{Named, bind_named, note_named, hello_named}
use Rattle.arj_law_lock.specs.machine.State.{State}
use Rattle.arj_law_parts.specs.parts.Objects.{IsGoodObject}
use Rattle.arj_law_parts.specs.parts.Tops.{Owners}
use Rattle.arj_law_lock_view.specs.view.Acts.{Acts, AreOne, IsTopped}
use Rattle.arj_law_lock_view.specs.view.Going.{Goes, NobodyTold, OnlyNaming, ShowsBound, ShowsNoted}
use Rattle.arj_law_lock_view.specs.view.Named.{IsNamedSo, Place, SeesNamed}

-- what the parts of naming keep of the object
abbrev pub IsGood : Owners → ℕ → Place → Named → Type 0
IsGood owner x n o = IsGoodObject owner n.told n.inc n.count x o

-- A Bind of an action with a top, that avoids a binding which was made before, at an object that is seen: the machine gives the top a row
-- and the live binding, or a new one, or the write row for an include; or it does nothing, where a lock conflicts or the answer is one that
-- was given.
abbrev pub BindsAreSeen : Type 0
BindsAreSeen =
    (act : Acts) (owner : Owners) (x : ℕ) (n : Place) (o : Named) (p : Path) (include : Bool) (avoid : Binding) (e : Entry) (S : State)
    → AreOne act → IsTopped act p → binding_number avoid < S.naming.bound → IsGood owner x n o → SeesNamed act x n o S
    → let r = bind_named n.inc x p include avoid e (record { named = o; count = n.count }) in
    Goes S (λ T. SeesNamed act x (record n { count = (let c = r.part in c.count) }) (let c = r.part in c.named) T × OnlyNaming S T
    × NobodyTold S T × ShowsBound act (top_of p) avoid T r.reply)

-- Nobody told naming of the top's end, or of its owner's: neither in the protocol nor in the machine.
pub record IsUntold (act : Acts) (owner : Owners) (n : Place) (S : State) (t : Uid) : Type 0 where
  pub own : n.told t ≡ false
  pub above : n.told (owner t) ≡ false
  pub seen : S.naming.told (act t) ≡ false

-- A Record of a top that wasn't told of, with an incarnation that its root heard: the machine records the binding, or it did.
abbrev pub NotesAreSeen : Type 0
NotesAreSeen = (act : Acts) (owner : Owners) (x : ℕ) (n : Place) (o : Named) (t : Uid) (b : Binding) (i : ℕ) (S : State)
    → AreOne act → IsUntold act owner n S t → IsNamedSo S b i → IsGood owner x n o → SeesNamed act x n o S
    → let r = note_named x t b i o in Goes S (λ T. SeesNamed act x n r.part T × OnlyNaming S T × NobodyTold S T × ShowsNoted b T r.reply)

-- A Hello may take a live binding away: the machine does nothing.
abbrev pub HellosAreSeen : Type 0
HellosAreSeen = (act : Acts) (x : ℕ) (n : Place) (o : Named) (node inc : ℕ) (S : State) → SeesNamed act x n o S →
    SeesNamed act x n (hello_named node inc o) S
