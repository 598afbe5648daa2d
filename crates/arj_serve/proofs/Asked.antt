-- A request to one part is served as the protocol's node serves it.
use Rattle.std.proofs.Common.{◌≡◌, ◌∙◌, ◌++◌, ℕ, List, refl, ap, subst, Option, Some, None}
use Rattle.std.specs.Prelude.{option_map}
use Rattle.arj_disk.specs.FileMap.{FileMap}
use Rattle.arj_journal.specs.declared.body.Line.{Line}
use Rattle.arj_protocol.specs.Ask.{Reply, asked_by, response}
use Rattle.arj_protocol.specs.Coord.{Coord}
use Rattle.arj_naming.specs.Confirming.{AreLines}
use Rattle.arj_naming.specs.Kept as naming
use Rattle.arj_protocol.specs.Effect.{Disk, Pair, Served}
use Rattle.arj_protocol.specs.Naming.{Naming}
use Rattle.arj_protocol.specs.Node.{served, with_naming, with_server}
use Rattle.arj_protocol.specs.Says.{AreAll, is_server_effect}
use Rattle.arj_protocol.specs.Server.{Server}
use Rattle.arj_protocol.specs.Words.{Head, Message}
use Rattle.arj_serve.specs.Asked.{IsServed, Serves, asked}
use Rattle.arj_serve.specs.Did.{Call}
use Rattle.arj_serve.specs.Kept.{Kept, NamingStands, StandsOn, part_of, parts_with}
use Rattle.arj_serve.specs.Parts.{NamingDid}
use Rattle.arj_serve.proofs.Served.{VoidIsNothing, noted_served, server_served}
use Rattle.arj_server.specs.Lines as lines
use Rattle.arj_store.specs.declared.store.ObjectStore.{Ghosts}

-- an answer as its message, step by step or at once
pub map_twice : {A B C : Type 0} (f : A → B) (g : B → C) (a : Option A) → option_map g (option_map f a) ≡ option_map (λ x. g (f x)) a
map_twice f g None = refl
map_twice f g (Some x) = refl

-- what the server answers to a request: `f` is its function, at the node's number
pub server_asked : {O R : Type 0} (o : Ghosts O) (m : Message) (h : Head) (say : R → Reply) (f : ℕ → Server → Served Server R)
    → ((k : Kept O) (d : Disk) (from : ℕ) (e : Coord) →
    served from h (with_server (parts_with k e)) say (f k.number k.server) ≡ asked k.number d (parts_with k e) from m)
    → (old now : Kept O) → old ≡ now → (s : Server) (file : FileMap) (before after : List Line) (answer : Option Message)
    → VoidIsNothing old.server (f old.number old.server) → AreAll (is_server_effect old.number) (f old.number old.server).outs
    → s ≡ (f old.number old.server).part → after ≡ before ++ lines.said (f old.number old.server).outs →
    answer ≡ option_map (λ x. response (asked_by h) (say x)) (f old.number old.server).reply
    → Serves o m (record { old = now; new = record old { server = s }; file = file; left = file; before = before; after = after }) answer
server_asked {O} {R} o m h say f is old now view s file before after answer nothing all part said reply d stands from e =
    let Goal : Kept O → Type 0 =
    λ k. StandsOn o k file d →
    IsServed o from (asked k.number d (parts_with k e) from m) e (record {
      old = k;
      new = record old { server = s };
      file = file;
      left =
          file;
      before = before;
      after = after;
    }) d answer in
    let call : Call O = record { old = old; new = record old { server = s }; file = file; left = file; before = before; after = after } in
    let here : Goal old = λ st. subst (λ hh. IsServed o from hh e call d answer) (is old d from e)
    (server_served o from h e call d say (f old.number old.server) answer nothing all (record {
      part =
          λ i. record old { server = part i };
      lines = said;
      reply = reply;
    }) st) in
    subst Goal view here stands

-- what naming answers in memory to a request: `f` is its function, on the pair of entries
pub naming_asked : {O R : Type 0} (o : Ghosts O) (m : Message) (h : Head) (say : R → Reply) (f : Pair → Naming → Served Naming R)
    → ((k : Kept O) (n : Naming) (d : Disk) (from : ℕ) (e : Coord) → option_map part_of k.naming ≡ Some n →
    served from h (with_naming (parts_with k e)) say (f d.names n) ≡ asked k.number d (parts_with k e) from m)
    → (old now : Kept O) → old ≡ now → (n k : naming.Kept O) → old.naming ≡ Some n →
    (file : FileMap) (before after : List Line) (answer : Option Message)
    → VoidIsNothing n.part (f n.pair n.part) → AreLines (f n.pair n.part).outs →
    NamingDid (f n.pair n.part) (λ x. response (asked_by h) (say x)) (record { old = n; new = k; before = before; after = after }) answer
    → Serves o m (record {
      old = now;
      new = record old { naming = Some k };
      file = file;
      left = file;
      before = before;
      after =
          after;
    }) answer
naming_asked {O} {R} o m h say f is old now view n k was file before after answer nothing said did d stands from e =
    let Goal : Kept O → Type 0 =
    λ s. StandsOn o s file d →
    IsServed o from (asked s.number d (parts_with s e) from m) e (record {
      old = s;
      new = record old { naming = Some k };
      file =
          file;
      left = file;
      before = before;
      after = after;
    }) d answer in
    let call : Call O =
    record { old = old; new = record old { naming = Some k }; file = file; left = file; before = before; after = after } in
    let here : Goal old = λ st.
    let named : NamingStands o (Some n) file d.names = subst (λ x. NamingStands o x file d.names) was st.naming in
    let there : served from h (with_naming (parts_with old e)) say (f n.pair n.part) ≡ asked old.number d (parts_with old e) from m =
    (λ i. served from h (with_naming (parts_with old e)) say (f (named.1 i) n.part)) ∙ is old n.part d from e (ap (option_map part_of) was) in
    subst (λ hh. IsServed o from hh e call d answer) there (noted_served o from h e call d say (f n.pair n.part) n k answer was refl nothing said did st) in
    subst Goal view here stands
