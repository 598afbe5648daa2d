-- Requests that are answered in memory are served.
use Rattle.std.proofs.Common.{◌≡◌, ◌∙◌, ◌++◌, Bool, true, false, List, [], ◌∷◌, ℕ, refl, sym, ap, subst, Option, Some, None}
use Rattle.std.specs.Prelude.{is_some, option_map}
use Rattle.std.specs.List.{list_all}
use Rattle.std.proofs.lemmas.Bool.{and_parts}
use Rattle.std.proofs.lemmas.List.{append-nil}
use Rattle.arj_disk.specs.declared.slot.Role.TheVariants as slot_role
use Rattle.arj_naming.specs.Confirming.{AreLines}
use Rattle.arj_naming.specs.Files.{GivesEntries}
use Rattle.arj_naming.specs.Kept as naming
use Rattle.arj_naming.specs.Said.{said, pair_after}
use Rattle.arj_protocol.specs.Ask.{Reply, asked_by, response}
use Rattle.arj_protocol.specs.Coord.{Coord}
use Rattle.arj_protocol.specs.Effect.{Disk, Effect, Pair, Say, Send, Do, Served}
use Rattle.arj_protocol.specs.Node.{Parts, served, sends_answer, with_naming, with_server}
use Rattle.arj_protocol.specs.Naming.{Naming}
use Rattle.arj_protocol.specs.Says.{AreAll, is_naming_effect, is_server_effect, is_server_line}
use Rattle.arj_protocol.specs.Server.{Server}
use Rattle.arj_protocol.specs.Words.{Head, Message}
use Rattle.arj_serve.specs.Asked.{IsServed}
use Rattle.arj_serve.specs.Did.{AreLocal, Call, SamePlace, disk_after}
use Rattle.arj_serve.specs.Kept.{Kept, NamingStands, StandsOn, part_of, parts_with}
use Rattle.arj_serve.specs.Parts.{NamingDid, ServerDid}
use Rattle.arj_serve.proofs.Cuts.{names_after, names_local}
use Rattle.arj_serve.proofs.Places.{place_naming, place_server}
use Rattle.arj_server.specs.Lines as server
use Rattle.arj_server.specs.Meaning.{VoidWhere}
use Rattle.arj_store.specs.declared.store.ObjectStore.{Ghosts}

-- ---- lines alone

pub same_said : (es : List Effect) → server.said es ≡ said es
same_said [] = refl
same_said (Say b ∷ es) = ap (λ lines. record { event = 0; body = b } ∷ lines) (same_said es)
same_said (Send to m ∷ es) = same_said es
same_said (Do w ∷ es) = same_said es

-- a server's effects are lines
pub server_local : (n : ℕ) (es : List Effect) → AreAll (is_server_effect n) es → AreLocal es
server_local n [] all = tt
server_local n (Say b ∷ es) all = server_local n es (and_parts (is_server_line n b) (list_all (is_server_effect n) es) all).1
server_local n (Send to m ∷ es) all = absurd (cc all)
server_local n (Do w ∷ es) all = absurd (cc all)

pub server_after : (n : ℕ) (es : List Effect) (d : Disk) → AreAll (is_server_effect n) es → disk_after es d ≡ d
server_after n [] d all = refl
server_after n (Say b ∷ es) d all = server_after n es d (and_parts (is_server_line n b) (list_all (is_server_effect n) es) all).1
server_after n (Send to m ∷ es) d all = absurd (cc all)
server_after n (Do w ∷ es) d all = absurd (cc all)

pub lines_local : (es : List Effect) → AreLines es → AreLocal es
lines_local [] are = tt
lines_local (Say b ∷ es) are = lines_local es are
lines_local (Send to m ∷ es) are = absurd are
lines_local (Do w ∷ es) are = absurd are

pub lines_after : (es : List Effect) (d : Disk) → AreLines es → disk_after es d ≡ d
lines_after [] d are = refl
lines_after (Say b ∷ es) d are = lines_after es d are
lines_after (Send to m ∷ es) d are = absurd are
lines_after (Do w ∷ es) d are = absurd are

-- ---- one part

-- without an answer nothing was done
abbrev pub VoidIsNothing : {S R : Type 0} → S → Served S R → Type 0
VoidIsNothing s r = r.reply ≡ None → (r.part ≡ s) × (r.outs ≡ [])

pub void_where : {R : Type 0} (test : Bool) (s : Server) (r : Served Server R) → VoidWhere test s r → VoidIsNothing s r
void_where true s r where_void none = let is = where_void.nothing refl in ((λ i. (is i).part), (λ i. (is i).outs))
void_where false s r where_void none = absurd (cc (sym (ap is_some none) ∙ where_void.answered refl))

-- no entries
abbrev pub no_entries : Pair
no_entries = record { held = []; pend = [] }

module _ {O : Type 0} (o : Ghosts O) (from : ℕ) (h : Head) (c : Coord) (call : Call O) (d : Disk) where
  abbrev old : Kept O
  old = call.old

  abbrev new : Kept O
  new = call.new

  -- a part's call, put back in its place, is served
  pub part_served : {S R : Type 0} (put : Coord → S → Parts) (s : S) (say : R → Reply) (r : Served S R) (answer : Option Message)
      → VoidIsNothing s r → AreLocal r.outs → SamePlace call → ((e : Coord) → put e s ≡ parts_with old e) →
      ((e : Coord) → put e r.part ≡ parts_with new e) → call.after ≡ call.before ++ said r.outs
      → answer ≡ option_map (λ x. response (asked_by h) (say x)) r.reply → StandsOn o new call.left (disk_after r.outs d)
      → IsServed o from (served from h (put c) say r) c call d answer
  part_served {S} {R} put s say r answer nothing local place same parts lines reply stands = by r.reply refl answer reply
    where
      none : r.reply ≡ None → IsServed o from (served from h (put c) say r) c call d None
      none e = let void_part = nothing e in
          record {
            place = place;
            looks = [];
            are = tt;
            is = λ i. sends_answer from h (put c r.part) r.outs (option_map say (e i));
            parts = λ k. sym (parts k) ∙ ((λ i. put k (void_part.0 i)) ∙ same k);
            lines = lines ∙ ((λ i. call.before ++ said (void_part.1 i)) ∙ append-nil call.before);
            stands = subst (λ es. StandsOn o new call.left (disk_after es d)) void_part.1 stands;
          }

      some : (x : R) → r.reply ≡ Some x → IsServed o from (served from h (put c) say r) c call d (Some (response (asked_by h) (say x)))
      some x e = record {
        place = place;
        done = r.outs;
        local = local;
        is = λ i. sends_answer from h (parts c i) r.outs (option_map say (e i));
        lines = lines;
        stands = stands;
      }

      by : (reply : Option R) → r.reply ≡ reply → (a : Option Message) → a ≡ option_map (λ x. response (asked_by h) (say x)) r.reply →
          IsServed o from (served from h (put c) say r) c call d a
      by None e a is =
          subst (IsServed o from (served from h (put c) say r) c call d) (sym (is ∙ ap (option_map (λ x. response (asked_by h) (say x))) e)) (none e)
      by (Some x) e a is =
          subst (IsServed o from (served from h (put c) say r) c call d) (sym (is ∙ ap (option_map (λ x. response (asked_by h) (say x))) e)) (some x e)

  -- standing, with another server
  pub other_server : (s : Server) → new ≡ record old { server = s } → StandsOn o old call.left d → StandsOn o new call.left d
  other_server s is stands =
      let t : StandsOn o (record old { server = s }) call.left d =
      record {
        role_is = stands.role_is;
        keeps = stands.keeps;
        formed = stands.formed;
        pair = stands.pair;
        objects =
            stands.objects;
        naming = stands.naming;
      } in
      subst (λ k. StandsOn o k call.left d) (sym is) t

  -- what a server does is served
  pub server_served : {R : Type 0} (say : R → Reply) (r : Served Server R) (answer : Option Message) → VoidIsNothing old.server r →
      AreAll (is_server_effect old.number) r.outs
      → ServerDid r (λ x. response (asked_by h) (say x)) call answer → StandsOn o old call.left d
      → IsServed o from (served from h (with_server (parts_with old c)) say r) c call d answer
  server_served say r answer nothing all did stands =
      part_served (λ e. with_server (parts_with old e)) old.server say r answer nothing (server_local old.number r.outs all) (place_server call r.part did.part)
      (λ e. refl) (λ e i. parts_with (sym did.part i) e) (did.lines ∙ (λ i. call.before ++ same_said r.outs i)) did.reply
      (subst (StandsOn o new call.left) (sym (server_after old.number r.outs d all)) (other_server r.part did.part stands))

  -- ---- naming

  -- naming's part, put back in its place
  naming_put : (n k : naming.Kept O) (t : Naming) → old.naming ≡ Some n → new ≡ record old { naming = Some k } → k.part ≡ t → (e : Coord) →
      with_naming (parts_with old e) t ≡ parts_with new e
  naming_put n k t was is part e =
      (λ i. record { server = old.server; naming = Some (sym part i); coord = e }) ∙ (λ i. parts_with (sym is i) e)

  naming_same : (n : naming.Kept O) → old.naming ≡ Some n → (e : Coord) → with_naming (parts_with old e) n.part ≡ parts_with old e
  naming_same n was e = λ i. record { server = old.server; naming = option_map part_of (sym was i); coord = e }

  -- standing, with another naming part
  pub other_naming : (n k : naming.Kept O) (p : Pair) → new ≡ record old { naming = Some k } → naming.StandsOn o k call.left → k.pair ≡ p →
      GivesEntries (o.pair call.left slot_role.Names) → StandsOn o old call.left d → StandsOn o new call.left (record d { names = p })
  other_naming n k p is named pair gives stands =
      let t : StandsOn o (record old { naming = Some k }) call.left (record d { names = p }) =
      record {
        role_is = stands.role_is;
        keeps = stands.keeps;
        formed = stands.formed;
        pair = stands.pair;
        objects =
            stands.objects;
        naming = (named, pair, gives);
      } in
      subst (λ s. StandsOn o s call.left (record d { names = p })) (sym is) t

  -- what naming does in memory is served
  pub noted_served : {R : Type 0} (say : R → Reply) (r : Served Naming R) (n k : naming.Kept O) (answer : Option Message) →
      old.naming ≡ Some n → new ≡ record old { naming = Some k }
      → VoidIsNothing n.part r → AreLines r.outs →
      NamingDid r (λ x. response (asked_by h) (say x)) (record { old = n; new = k; before = call.before; after = call.after }) answer →
      StandsOn o old call.left d
      → IsServed o from (served from h (with_naming (parts_with old c)) say r) c call d answer
  noted_served say r n k answer was is nothing lines did stands =
      let named : NamingStands o (Some n) call.left d.names = subst (λ m. NamingStands o m call.left d.names) was stands.naming in
      let other : naming.StandsOn o (record n { part = r.part }) call.left =
      record { role_is = named.0.role_is; keeps = named.0.keeps; formed = named.0.formed; pair = named.0.pair } in
      part_served (λ e. with_naming (parts_with old e)) n.part say r answer nothing (lines_local r.outs lines) (place_naming call n k was is)
      (naming_same n was) (naming_put n k r.part was is (ap (λ (m : naming.Kept O). m.part) did.part)) did.lines did.reply
      (subst (StandsOn o new call.left) (sym (lines_after r.outs d lines))
      (other_naming n k d.names is (subst (λ m. naming.StandsOn o m call.left) (sym did.part) other) (ap (λ (m : naming.Kept O). m.pair) did.part ∙ named.1) named.2 stands))

  -- what naming does with its entries is served; the store of objects stands as before
  pub confirm_served : {R : Type 0} (say : R → Reply) (r : Served Naming R) (n k : naming.Kept O) (answer : Option Message) →
      old.naming ≡ Some n → new ≡ record old { naming = Some k }
      → VoidIsNothing n.part r → AreAll is_naming_effect r.outs →
      naming.HasDone (record { part = r.part; outs = r.outs }) n k call.before call.after → n.pair ≡ d.names →
      naming.StandsOn o k call.left → GivesEntries (o.pair call.left slot_role.Names)
      → answer ≡ option_map (λ x. response (asked_by h) (say x)) r.reply →
      StandsOn o (record old { naming = None }) call.left (record d { names = no_entries })
      → IsServed o from (served from h (with_naming (parts_with old c)) say r) c call d answer
  confirm_served say r n k answer was is nothing all did pair named gives reply stands =
      let t : StandsOn o (record old { naming = Some k }) call.left (record d { names = pair_after r.outs d.names }) =
      record {
        role_is = stands.role_is;
        keeps = stands.keeps;
        formed = stands.formed;
        pair = stands.pair;
        objects =
            stands.objects;
        naming = (named, did.pair ∙ (λ i. pair_after r.outs (pair i)), gives);
      } in
      part_served (λ e. with_naming (parts_with old e)) n.part say r answer nothing (names_local r.outs all) (place_naming call n k was is)
      (naming_same n was) (naming_put n k r.part was is did.part) did.lines reply
      (subst (StandsOn o new call.left) (sym (names_after r.outs d all)) (subst (λ s. StandsOn o s call.left (record d {
        names =
            pair_after r.outs d.names;
      })) (sym is) t))
