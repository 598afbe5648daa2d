-- Who holds locks or is prepared, as the protocol's node lists them.
use Rattle.std.proofs.Common.{◌≡◌, ◌∙◌, ◌||◌, ◌++◌, ◌<◌, ◌+◌, drop, length, get_or, Bool, true, false, cond, ℕ, List, [], ◌∷◌, map, filter}
use Rattle.std.proofs.Common.{refl, sym, ap, subst, Option, Some, None}
use Rattle.std.specs.Prelude.{IsSome, is_some, option_map, ◌↔◌}
use Rattle.std.specs.Ordering.{is_eq}
use Rattle.std.proofs.lemmas.List.{append-nil, drop_more}
use Rattle.arj_base.specs.Order.{uid_order}
use Rattle.arj_base.specs.Rows.{is_on}
use Rattle.arj_base.specs.Uid.{nobody, uid_eq}
use Rattle.arj_base.specs.declared.uid.Uid.{Uid}
use Rattle.arj_base.specs.declared.state.ObjectState.{ObjectState}
use Rattle.arj_disk.specs.FileMap.{FileMap}
use Rattle.arj_disk.specs.declared.slot.Role.TheVariants.{Store, Names}
use Rattle.arj_journal.specs.declared.body.Line.{Line}
use Rattle.arj_lock.specs.Held.{AreListed}
use Rattle.arj_msg.specs.declared.message.Hello.{Hello}
use Rattle.arj_naming.specs.Kept as naming
use Rattle.arj_naming.proofs.Listed.{contains_on, on_append, on_contains, on_listed}
use Rattle.arj_protocol.specs.Coord.{Coord}
use Rattle.arj_protocol.specs.Effect.{Disk, Pair}
use Rattle.arj_protocol.specs.Naming.{hello, naming_holders}
use Rattle.arj_protocol.specs.Node.{Took, holders, is_earlier, locks_of, naming_hello, prepared_actions, query_about}
use Rattle.arj_protocol.specs.Order.{at_uid, uid_set, with_uid}
use Rattle.arj_protocol.specs.Server.{server_holders}
use Rattle.arj_protocol.specs.Order.{is_empty}
use Rattle.arj_protocol.specs.Words.message
use Rattle.arj_serve.specs.Asked.{Handles, queries}
use Rattle.arj_serve.specs.Did.{sends}
use Rattle.arj_serve.specs.Held.{Greets, ListsNames, ListsPrepared}
use Rattle.arj_serve.specs.Kept.{Kept, NamingStands, StandsOn, part_of, parts_with}
use Rattle.arj_store.specs.Pair as files
use Rattle.arj_store.specs.Pair.{packed}
use Rattle.arj_store.specs.declared.store.ObjectStore.{Ghosts}
use Rattle.arj_law_store.specs.store.Files.{IsPairOf}
use Rattle.arj_law_store.proofs.store.Keys.{here, tied_is}
use Rattle.arj_law_store.proofs.store.Sets.{same_set, set_on, set_rises}

both_ways : (a b : Bool) → (a ≡ true → b ≡ true) → (b ≡ true → a ≡ true) → a ≡ b
both_ways true true to back = refl
both_ways true false to back = sym (to refl)
both_ways false true to back = back refl
both_ways false false to back = refl

-- a prepared action is one that has an entry
actions_on : (u : Uid) (es : List (Uid × List ObjectState)) → is_on (map (λ (e : Uid × List ObjectState). e.0) es) u ≡ is_some (at_uid u es)
actions_on u [] = refl
actions_on u (e ∷ es) = by (is_eq (uid_order u e.0)) refl (actions_on u es)
  where
    by : (b : Bool) → is_eq (uid_order u e.0) ≡ b → is_on (map (λ (f : Uid × List ObjectState). f.0) es) u ≡ is_some (at_uid u es)
        → (uid_eq e.0 u || is_on (map (λ (f : Uid × List ObjectState). f.0) es) u) ≡ is_some (cond b (Some e.1) (at_uid u es))
    by true is rest = λ i. (sym (tied_is u e.0) ∙ is) i || is_on (map (λ (f : Uid × List ObjectState). f.0) es) u
    by false is rest = λ i. (sym (tied_is u e.0) ∙ is) i || rest i

packed_some : (o : Option (List ObjectState)) → IsSome (option_map packed o) → is_some o ≡ true
packed_some None is = is
packed_some (Some ss) is = refl

some_packed : (o : Option (List ObjectState)) → is_some o ≡ true → IsSome (option_map packed o)
some_packed None is = is
some_packed (Some ss) is = refl

-- what the store lists are the prepared actions
stores_on : (p : files.Pair) (d : Pair) (actions : List Uid) → IsPairOf p d → files.ListsActions p actions → (u : Uid) →
    is_on actions u ≡ is_on (prepared_actions d) u
stores_on p d actions are lists u = both_ways (is_on actions u) (is_on (prepared_actions d) u)
    (λ on. actions_on u d.pend ∙ packed_some (at_uid u d.pend) (subst IsSome (are.pend u) ((lists.there u).1 (on_contains actions u on))))
    (λ on. contains_on actions u ((lists.there u).0 (subst IsSome (sym (are.pend u)) (some_packed (at_uid u d.pend) (sym (actions_on u d.pend) ∙ on)))))

without_names : (s p : Bool) → (s || p) ≡ (((s || false) || p) || false)
without_names true p = refl
without_names false true = refl
without_names false false = refl

swapped : (s p h : Bool) → ((s || p) || h) ≡ ((s || h) || p)
swapped true p h = refl
swapped false true true = refl
swapped false true false = refl
swapped false false true = refl
swapped false false false = refl

-- what is on four lists one behind the other
on_four : (a b c e : List Uid) (u : Uid) → is_on (a ++ b ++ c ++ e) u ≡ (((is_on a u || is_on b u) || is_on c u) || is_on e u)
on_four a b c e u =
    on_append (a ++ b ++ c) e u ∙ ((λ i. on_append (a ++ b) c u i || is_on e u) ∙ (λ i. (on_append a b u i || is_on c u) || is_on e u))

module _ {O : Type 0} (o : Ghosts O) (k : Kept O) (file : FileMap) (d : Disk) (stands : StandsOn o k file d) where
  -- all together, in increasing order, are the protocol's holders
  pub holders_are : (c : Coord) (tops actions all : List Uid) → AreListed (server_holders k.server) tops →
      files.ListsActions (o.pair file Store) actions → ListsNames k.naming (tops ++ actions) all → uid_set all ≡ holders d (parts_with k c)
  holders_are c tops actions all listed lists names =
      same_set (uid_set all) (uid_set raw) (set_rises all) (set_rises raw) (λ u. set_on all u ∙ (by u k.naming stands.naming names ∙ sym (set_on raw u)))
    where
      raw : List Uid
      raw = server_holders k.server ++ locks_of (option_map part_of k.naming) ++ prepared_actions d.store ++ prepared_actions d.names

      first : (u : Uid) → is_on (tops ++ actions) u ≡ (is_on (server_holders k.server) u || is_on (prepared_actions d.store) u)
      first u = on_append tops actions u ∙ (λ i. on_listed (server_holders k.server) tops u listed i || stores_on (o.pair file Store) d.store actions stands.pair lists u i)

      by : (u : Uid) (n : Option (naming.Kept O)) → NamingStands o n file d.names → ListsNames n (tops ++ actions) all
          → is_on all u ≡ is_on (server_holders k.server ++ locks_of (option_map part_of n) ++ prepared_actions d.store ++ prepared_actions d.names) u
      by u None none same =
          ap (λ us. is_on us u) same ∙ (first u ∙ (without_names (is_on (server_holders k.server) u) (is_on (prepared_actions d.store) u)
          ∙ ((λ i. ((is_on (server_holders k.server) u || false) || is_on (prepared_actions d.store) u) || is_on (map (λ (e : Uid × List ObjectState). e.0) (sym none i)) u)
          ∙ sym (on_four (server_holders k.server) [] (prepared_actions d.store) (prepared_actions d.names) u))))
      by u (Some n) (named, is, gives) (held, are, same) =
          ap (λ us. is_on us u) same ∙ (on_append (tops ++ actions ++ held) (prepared_actions n.pair) u ∙ ((λ i. on_append (tops ++ actions) held u i || is_on (prepared_actions (is i)) u)
          ∙ ((λ i. (first u i || on_listed (naming_holders n.part) held u are i) || is_on (prepared_actions d.names) u)
          ∙ ((λ i. swapped (is_on (server_holders k.server) u) (is_on (prepared_actions d.store) u) (is_on (naming_holders n.part) u) i || is_on (prepared_actions d.names) u)
          ∙ sym (on_four (server_holders k.server) (naming_holders n.part) (prepared_actions d.store) (prepared_actions d.names) u)))))

  -- and so are the prepared actions
  pub prepared_are : (actions all : List Uid) → files.ListsActions (o.pair file Store) actions → ListsPrepared k.naming actions all →
      uid_set all ≡ uid_set (prepared_actions d.store ++ prepared_actions d.names)
  prepared_are actions all lists names =
      same_set (uid_set all) (uid_set raw) (set_rises all) (set_rises raw) (λ u. set_on all u ∙ (by u k.naming stands.naming names ∙ sym (set_on raw u)))
    where
      raw : List Uid
      raw = prepared_actions d.store ++ prepared_actions d.names

      by : (u : Uid) (n : Option (naming.Kept O)) → NamingStands o n file d.names → ListsPrepared n actions all → is_on all u ≡ is_on raw u
      by u None none same =
          ap (λ us. is_on us u) (same ∙ sym (append-nil actions)) ∙ (on_append actions [] u ∙ ((λ i. stores_on (o.pair file Store) d.store actions stands.pair lists u i || is_on (map (λ (e : Uid × List ObjectState). e.0) (sym none i)) u)
          ∙ sym (on_append (prepared_actions d.store) (prepared_actions d.names) u)))
      by u (Some n) (named, is, gives) same =
          ap (λ us. is_on us u) same ∙ (on_append actions (prepared_actions n.pair) u ∙ ((λ i. stores_on (o.pair file Store) d.store actions stands.pair lists u i || is_on (prepared_actions (is i)) u)
          ∙ sym (on_append (prepared_actions d.store) (prepared_actions d.names) u)))

-- a set from one place on, with the Uid before it
pub set_more : (uids : List Uid) (i : ℕ) → i < length uids →
    with_uid (get_or uids i nobody) (uid_set (drop (i + 1) uids)) ≡ uid_set (drop i uids)
set_more uids i within = ap uid_set (sym (drop_more uids i nobody within))

-- ---- nothing is prepared

pub list_clear : {X : Type 0} (b : Bool) (es : List X) → (b ≡ true) ↔ (es ≡ []) → b ≡ is_empty es
list_clear true [] is = refl
list_clear true (e ∷ es) is = absurd (cc (is.0 refl))
list_clear false [] is = is.1 refl
list_clear false (e ∷ es) is = refl

pub store_clear : (p : files.Pair) (d : Pair) (b : Bool) → IsPairOf p d → (b ≡ true) ↔ ((a : Uid) → p.pend a ≡ None) → b ≡ is_empty d.pend
store_clear p d b are is = by b d.pend are.pend is
  where
    by : (b : Bool) (es : List (Uid × List ObjectState)) → ((a : Uid) → p.pend a ≡ option_map packed (at_uid a es)) →
        (b ≡ true) ↔ ((a : Uid) → p.pend a ≡ None) → b ≡ is_empty es
    by true [] at is = refl
    by true (e ∷ es) at is = absurd (cc (sym (is.0 refl e.0) ∙ (at e.0 ∙ ap (option_map packed) (here e es))))
    by false [] at is = is.1 at
    by false (e ∷ es) at is = refl

-- ---- a Hello

queries_are : (us : List Uid) → sends (queries us) ≡ map query_about us
queries_are [] = refl
queries_are (u ∷ us) = ap (λ es. query_about u ∷ es) (queries_are us)

-- naming was told, and the known actions of earlier incarnations are asked about
pub hello_handled : {O : Type 0} (o : Ghosts O) (m : Hello) (old new : Kept O) (held us : List Uid) (file : FileMap) (lines : List Line)
    → ((d : Disk) → StandsOn o old file d → (c : Coord) → held ≡ holders d (parts_with old c)) →
    us ≡ filter (is_earlier m.node m.inc) held → Greets o m old new
    → Handles o (message.Hello m) (record {
      old = old;
      new = new;
      file = file;
      left = file;
      before = lines;
      after =
          lines;
    }) (λ from. queries us)
hello_handled o m old new held us file lines holds earlier greets d stands from c = record {
  place = record { number = greets.number; named = greets.named };
  done = [];
  local = tt;
  is = (λ i. Took (record {
    server = sym greets.server i;
    naming = sym greets.part i;
    coord =
        c;
  }) (map query_about (filter (is_earlier m.node m.inc) (sym (holds d stands c) i))))
      ∙ (λ i. Took (parts_with new c) ((ap (map query_about) (sym earlier) ∙ sym (queries_are us)) i));
  lines = sym (append-nil lines);
  stands = greets.stands file d stands;
}

-- naming drops live bindings, and stands as before
pub greeted : {O : Type 0} (o : Ghosts O) (m : Hello) (old now : Kept O) → old ≡ now → (n k : naming.Kept O) → old.naming ≡ Some n →
    k.part ≡ hello m.node m.inc n.part → k.pair ≡ n.pair → k.store ≡ n.store
    → Greets o m now (record old { naming = Some k })
greeted {O} o m old now view n k was part_is pair_is store_is =
    let Goal : Kept O → Type 0 = λ s. Greets o m s (record old { naming = Some k }) in
    let here : Goal old = record {
      number = refl;
      named = sym (ap is_some was);
      server = refl;
      part = ap Some part_is ∙ (λ i. naming_hello m.node m.inc (option_map part_of (sym was i)));
      stands = λ file d st. again file d st (subst (λ x. NamingStands o x file d.names) was st.naming);
    } in
    subst Goal view here
  where
    again : (file : FileMap) (d : Disk) → StandsOn o old file d → NamingStands o (Some n) file d.names →
        StandsOn o (record old { naming = Some k }) file d
    again file d st named = record {
      role_is = st.role_is;
      keeps = st.keeps;
      formed = st.formed;
      pair = st.pair;
      objects = st.objects;
      naming = (
        record {
          role_is = ap o.own_role store_is ∙ named.0.role_is;
          keeps = subst (λ s. o.keeps s file) (sym store_is) named.0.keeps;
          formed = named.0.formed;
          pair = subst (IsPairOf (o.pair file Names)) (sym pair_is) named.0.pair;
        },
        pair_is ∙ named.1,
        named.2,
      );
    }

pub not_greeted : {O : Type 0} (o : Ghosts O) (m : Hello) (old now : Kept O) → old ≡ now → old.naming ≡ None → Greets o m now old
not_greeted {O} o m old now view was =
    let Goal : Kept O → Type 0 = λ s. Greets o m s old in
    let here : Goal old = record {
      number = refl;
      named = refl;
      server = refl;
      part = ap (option_map part_of) was ∙ (λ i. naming_hello m.node m.inc (option_map part_of (sym was i)));
      stands = λ file d st. st;
    } in
    subst Goal view here
