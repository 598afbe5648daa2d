-- What the coordinator made of a message, done on the records and the disk, is what the node's parts made of it.
use Rattle.std.proofs.Common.{◌≡◌, ◌∙◌, ◌++◌, true, false, List, [], refl, sym, ap, subst, Option, Some, None, ℕ}
use Rattle.std.specs.Prelude.{is_some}
use Rattle.arj_asking.specs.Hearing.{heard_as}
use Rattle.arj_disk.specs.FileMap.{FileMap}
use Rattle.arj_intent.specs.Records.{AreInForm}
use Rattle.arj_node.specs.Handing as node
use Rattle.arj_node.specs.Outgoing.{IsHalted}
use Rattle.arj_node.specs.declared.outgoing.Outgoing.{Outgoing}
use Rattle.arj_parts.specs.Calls.{Call, Halts, Takes}
use Rattle.arj_parts.specs.Kept.{Kept, RestsOn, StandsOn}
use Rattle.arj_parts.specs.Records.{CutsRecords, DoesRecords, OnlyRecords}
use Rattle.arj_parts.proofs.Coordinated.{coord_does, coord_halts}
use Rattle.arj_protocol.proofs.CoordSays.{heard_own}
use Rattle.arj_protocol.specs.Ask.{Reply}
use Rattle.arj_protocol.specs.Coord.{Coord}
use Rattle.arj_protocol.specs.Effect.{Effect, Intent, Served}
use Rattle.arj_protocol.specs.Node.{Handled, Here, Parts, Took, by_reply, coord_heard, with_coord}
use Rattle.arj_protocol.specs.Says.{AreAll, is_coord_effect}
use Rattle.arj_protocol.specs.Words.{Asked, Uid}
use Rattle.arj_serve.proofs.Roles.{KeepsOn, Stays}
use Rattle.arj_serve.specs.Kept as serve
use Rattle.arj_store.specs.declared.store.ObjectStore.{Ghosts}

-- an answer leads to effects of a coordinator
pub heard_all : (from : ℕ) (a : Option (Asked × Reply)) (intents : List (Uid × Intent)) (c : Coord) →
    AreAll is_coord_effect (heard_as from a intents c).outs
heard_all from None intents c = refl
heard_all from (Some a) intents c = heard_own from a.0 a.1 intents c

-- the same reply, where it is one
is_tt : (r : Option (Unit {0})) → true ≡ is_some r → r ≡ Some tt
is_tt None is = absurd (cc is)
is_tt (Some u) is = refl

is_none : (r : Option (Unit {0})) → false ≡ is_some r → r ≡ None
is_none None is = refl
is_none (Some u) is = absurd (cc is)

-- what the node makes of a message, where the coordinator makes this of it
abbrev pub hears : (List (Uid × Intent) → Coord → Served Coord (Unit {0})) → ℕ → Here → Handled
hears f n h = coord_heard h.parts (f h.disk.intents h.parts.coord)

-- the parts with these services, before and after
abbrev pub the_call : {O : Type 0} → serve.Kept O → Coord → Coord → List (Uid × Intent) → List (Uid × Intent) → FileMap → FileMap →
    List Outgoing → List Outgoing → Call O
the_call s c now r kept file left before after = record {
  old = record { services = s; coord = c; records = r };
  new = record { services = s; coord = now; records = kept };
  file = file;
  left = left;
  before = before;
  after = after;
}

module _ {O : Type 0} (o : Ghosts O) (s : serve.Kept O) (c : Coord) (r : List (Uid × Intent)) (file : FileMap) where
  abbrev old : Kept O
  old = record { services = s; coord = c; records = r }

  module _ (n : ℕ) (h : Here) (stands : StandsOn o n old file h) where
    same_coord : c ≡ h.parts.coord
    same_coord = sym (ap (λ (t : Parts). t.coord) stands.parts)

    -- the parts with the coordinator that they have
    same_parts : with_coord h.parts c ≡ h.parts
    same_parts = ap (λ (t : Parts). with_coord t c) stands.parts ∙ sym stands.parts

    -- what the coordinator makes of a message with the records in memory, it makes with those on the disk
    same_heard : {A : Type 0} (f : List (Uid × Intent) → Coord → A) → f h.disk.intents h.parts.coord ≡ f r c
    same_heard f = λ i. f (sym stands.records i) (sym same_coord i)

  -- a message was void
  pub heard_leaves : (now : Coord) (outs : List Outgoing) (f : List (Uid × Intent) → Coord → Served Coord (Unit {0})) → now ≡ c →
      false ≡ is_some (f r c).reply
      → Takes o (hears f) (the_call s c now r r file file outs outs) false
  heard_leaves now outs f same void n h stands = record {
    looks = [];
    is = ap (coord_heard h.parts) (same_heard n h stands f) ∙ (λ i. by_reply (with_coord h.parts (f r c).part) (f r c).outs (is_none (f r c).reply void i));
    quiet = refl;
    same = refl;
    stands = subst (λ e. StandsOn o n (record { services = s; coord = e; records = r }) file h) (sym same) stands;
    outs = refl;
  }

  module _ (keeps_on : KeepsOn o) (stays : Stays o) (left : FileMap) (only : OnlyRecords file left) (form : AreInForm left) (now : Coord) (kept : List (Uid × Intent)) (before after : List Outgoing) (none es : List Effect) (nothing : none ≡ []) where
    -- ---- `f` is what the coordinator made of a message that was taken

    module _ (f : List (Uid × Intent) → Coord →
        Served Coord (Unit {0})) (all : AreAll is_coord_effect (f r c).outs) (part : now ≡ (f r c).part) (outs : es ≡ none ++ (f r c).outs) (taken : true ≡ is_some (f r c).reply) where
      are : es ≡ (f r c).outs
      are = outs ∙ ap (λ xs. xs ++ (f r c).outs) nothing

      own : AreAll is_coord_effect es
      own = subst (AreAll is_coord_effect) (sym are) all

      took : (n : ℕ) (h : Here) → StandsOn o n old file h → hears f n h ≡ Took (with_coord h.parts now) es
      took n h stands = ap (coord_heard h.parts) (same_heard n h stands f)
          ∙ ((λ i. by_reply (with_coord h.parts (f r c).part) (f r c).outs (is_tt (f r c).reply taken i)) ∙ (λ i. Took (with_coord h.parts (sym part i)) (sym are i)))

      -- its effects were done
      pub heard_takes : DoesRecords es file left r kept before after →
          Takes o (hears f) (the_call s c now r kept file left before after) true
      heard_takes does n h stands = record {
        parts = with_coord h.parts now;
        effects = es;
        is = took n h stands;
        does = coord_does o keeps_on stays n old file left h stands only form now es kept before after own does;
      }

      -- its effects were stopped
      pub heard_halts : CutsRecords es file left before after →
          Halts o (λ n h. node.outs_of (hears f n h)) (the_call s c now r kept file left before after)
      heard_halts cut n h stands = subst (λ v. IsHalted (RestsOn o n left) (node.outs_of v) h.disk before after) (sym (took n h stands))
          (coord_halts o keeps_on stays n old file left h stands only form es before after own cut)

    -- ---- `f` is what it does at a query, which leaves it as it is

    module _ (f : List (Uid × Intent) → Coord →
        List Effect) (all : AreAll is_coord_effect (f r c)) (outs : es ≡ none ++ f r c) (same : now ≡ c) where
      answered : es ≡ f r c
      answered = outs ∙ ap (λ xs. xs ++ f r c) nothing

      own_answer : AreAll is_coord_effect es
      own_answer = subst (AreAll is_coord_effect) (sym answered) all

      pub query_takes : DoesRecords es file left r kept before after →
          Takes o (λ n h. Took h.parts (f h.disk.intents h.parts.coord)) (the_call s c now r kept file left before after) true
      query_takes does n h stands = record {
        parts = with_coord h.parts now;
        effects = es;
        is = λ i. Took (sym (ap (with_coord h.parts) same ∙ same_parts n h stands) i) ((same_heard n h stands f ∙ sym answered) i);
        does = coord_does o keeps_on stays n old file left h stands only form now es kept before after own_answer does;
      }

      pub query_halts : CutsRecords es file left before after →
          Halts o (λ n h. f h.disk.intents h.parts.coord) (the_call s c now r kept file left before after)
      query_halts cut n h stands =
          subst (λ xs. IsHalted (RestsOn o n left) xs h.disk before after) (answered ∙ sym (same_heard n h stands f))
          (coord_halts o keeps_on stays n old file left h stands only form es before after own_answer cut)
