-- What a tick asks again is sent, and changes no disk.
use Rattle.std.proofs.Common.{◌≡◌, ◌++◌, ◌∙◌, ℕ, Bool, true, false, List, [], ◌∷◌, map, refl, sym, ap, subst}
use Rattle.std.proofs.lemmas.List.{append_assoc}
use Rattle.arj_disk.specs.FileMap.{FileMap}
use Rattle.arj_node.specs.Acting.{again_at, tick_outs}
use Rattle.arj_node.specs.Handing as node
use Rattle.arj_node.specs.Outgoing.{Tells, effects_of, loud}
use Rattle.arj_node.specs.Ran.{disk_after}
use Rattle.arj_node.specs.declared.outgoing.Outgoing.{Outgoing}
use Rattle.arj_parts.specs.Kept.{Kept, StandsOn}
use Rattle.arj_parts.proofs.Acting.{same_coord}
use Rattle.arj_parts.proofs.Performed.{loud_both}
use Rattle.arj_parts.proofs.StateWorks.{first_and_rest}
use Rattle.arj_protocol.specs.Asking.{again_all, again_now, asks_all, asks_node}
use Rattle.arj_protocol.specs.Commit.{plan_of, waiting}
use Rattle.arj_protocol.specs.Coord.{Coord, Doing, Now, Idle, Calling, Committing}
use Rattle.arj_protocol.specs.Effect.{Disk, Effect, Intent, Say, Send, Do}
use Rattle.arj_protocol.specs.Ending.{tell, tell_all}
use Rattle.arj_protocol.specs.Node.{Here, Parts, holders, query_about, with_coord}
use Rattle.arj_protocol.specs.Says.{AreAll}
use Rattle.arj_protocol.specs.Step.{tolds_again}
use Rattle.arj_protocol.specs.Words.{Path, Uid, Ask}
use Rattle.arj_protocol.specs.Words.ending
use Rattle.arj_protocol.proofs.PartSays.{all_both, all_flat}
use Rattle.arj_serve.specs.Kept.{parts_with}
use Rattle.arj_store.specs.declared.store.ObjectStore.{Ghosts}

-- ---- messages alone

abbrev is_sent : Effect → Bool
is_sent (Send to m) = true
is_sent _ = false

abbrev AreSent : List Effect → Type 0
AreSent es = AreAll is_sent es

sent_loud : (es : List Effect) → AreSent es → loud es ≡ es
sent_loud [] all = refl
sent_loud (Say b ∷ es) all = absurd (cc (first_and_rest is_sent (Say b) es all).0)
sent_loud (Send to m ∷ es) all = ap (λ xs. Send to m ∷ xs) (sent_loud es (first_and_rest is_sent (Send to m) es all).1)
sent_loud (Do w ∷ es) all = absurd (cc (first_and_rest is_sent (Do w) es all).0)

sent_quiet : (es : List Effect) (d : Disk) → AreSent es → disk_after es d ≡ d
sent_quiet [] d all = refl
sent_quiet (Say b ∷ es) d all = absurd (cc (first_and_rest is_sent (Say b) es all).0)
sent_quiet (Send to m ∷ es) d all = sent_quiet es d (first_and_rest is_sent (Send to m) es all).1
sent_quiet (Do w ∷ es) d all = absurd (cc (first_and_rest is_sent (Do w) es all).0)

map_sent : {A : Type 0} (f : A → Effect) (items : List A) → ((a : A) → is_sent (f a) ≡ true) → AreSent (map f items)
map_sent f [] each = refl
map_sent f (a ∷ rest) each = rw (each a) (map_sent f rest each)

-- ---- what is asked again

asks_sent : (p : Path) (req : ℕ) (asked : List (ℕ × Ask)) (c : Coord) → AreSent (asks_all p req asked c).outs
asks_sent p req [] c = refl
asks_sent p req (a ∷ rest) c =
    let d = asks_node p req a c in
    asks_sent p req rest d.part

asks_telling : (p : Path) (req : ℕ) (asked : List (ℕ × Ask)) (c : Coord) →
    (let d = asks_all p req asked c in let e = d.part in e.telling) ≡ c.telling
asks_telling p req [] c = refl
asks_telling p req (a ∷ rest) c =
    let d = asks_node p req a c in
    asks_telling p req rest d.part

now_sent : (c : Coord) (n : Now) → AreSent (again_now c n).outs
now_sent c Idle = refl
now_sent c (Calling s) = refl
now_sent c (Committing m) = asks_sent (plan_of m).path (plan_of m).req (waiting m) c

now_telling : (c : Coord) (n : Now) → (let d = again_now c n in let e = d.part in e.telling) ≡ c.telling
now_telling c Idle = refl
now_telling c (Calling s) = refl
now_telling c (Committing m) = asks_telling (plan_of m).path (plan_of m).req (waiting m) c

again_sent : (ds : List Doing) (c : Coord) → AreSent (again_all ds c).outs
again_sent [] c = refl
again_sent (d ∷ ds) c =
    let t = again_now c d.now in
    all_both is_sent t.outs _ (now_sent c d.now) (again_sent ds t.part)

pub again_telling : (ds : List Doing) (c : Coord) → (let d = again_all ds c in let e = d.part in e.telling) ≡ c.telling
again_telling [] c = refl
again_telling (d ∷ ds) c = let t = again_now c d.now in again_telling ds t.part ∙ now_telling c d.now

tolds_sent : (telling : List (Uid × Intent)) → AreSent (tolds_again telling)
tolds_sent telling = all_flat is_sent (λ (e : Uid × Intent). tell_all e.1.root true ((e.0, ending.Commit) ∷ []) e.1.nodes) telling
    (λ e. map_sent (tell e.1.root true ((e.0, ending.Commit) ∷ [])) e.1.nodes (λ n. refl))

tick_sent : (h : Here) → AreSent (tick_outs h)
tick_sent h =
    all_both is_sent ((again_at h).outs ++ tolds_again h.parts.coord.telling) (map query_about (holders h.disk h.parts))
    (all_both is_sent (again_at h).outs (tolds_again h.parts.coord.telling) (again_sent h.parts.coord.doings h.parts.coord) (tolds_sent h.parts.coord.telling))
    (map_sent query_about (holders h.disk h.parts) (λ u. refl))

-- ---- the tick

module _ {O : Type 0} (o : Ghosts O) (n : ℕ) (p : Kept O) (file : FileMap) (h : Here) (stands : StandsOn o n p file h) where
  -- the parts with what their coordinator is now
  pub stands_with : (c : Coord) →
      StandsOn o n (record { services = p.services; coord = c; records = p.records }) file (record {
        disk = h.disk;
        parts =
            with_coord h.parts c;
      })
  stands_with c = record {
    rests = stands.rests;
    services = stands.services;
    number = stands.number;
    named = stands.named;
    records = stands.records;
    parts = ap (λ (t : Parts). with_coord t c) stands.parts;
  }

  -- these effects of the coordinator, and behind them queries, are what a tick sends
  pub ticks : (c : Coord) (es : List Effect) (us : List Uid) (before mid after : List Outgoing)
      → c ≡ (let d = again_all p.coord.doings p.coord in d.part) →
      es ≡ (let d = again_all p.coord.doings p.coord in d.outs) ++ tolds_again p.coord.telling →
      us ≡ holders h.disk (parts_with p.services p.coord)
      → Tells es before mid → effects_of after ≡ effects_of mid ++ map query_about us
      → node.Does (StandsOn o n (record {
        services = p.services;
        coord = c;
        records =
            p.records;
      }) file) (with_coord h.parts (again_at h).part) (tick_outs h) h.disk before after
  ticks c es us before mid after part outs held told asked =
      let same : p.coord ≡ h.parts.coord = sym (same_coord o n p file h stands) in
      let now : c ≡ (again_at h).part = part ∙ (λ i. let x = same i in let d = again_all x.doings x in d.part) in
      record {
        stands = subst (λ (d : Disk). StandsOn o n (record { services = p.services; coord = c; records = p.records }) file (record {
          disk =
              d;
          parts = with_coord h.parts (again_at h).part;
        })) (sym (sent_quiet (tick_outs h) h.disk (tick_sent h)))
            (subst (λ (x : Coord). StandsOn o n (record { services = p.services; coord = c; records = p.records }) file (record {
              disk =
                  h.disk;
              parts = with_coord h.parts x;
            })) now (stands_with c));
        tells = asked ∙ (ap (λ xs. xs ++ map query_about us) told ∙ (append_assoc (effects_of before) (loud es) (map query_about us) ∙ ap (λ xs. effects_of before ++ xs) all));
      }
    where
      same_parts : holders h.disk (parts_with p.services p.coord) ≡ holders h.disk h.parts
      same_parts = ap (holders h.disk) (sym stands.parts)

      outs_so : (let d =
          again_all p.coord.doings p.coord in d.outs) ++ tolds_again p.coord.telling ≡ (again_at h).outs ++ tolds_again h.parts.coord.telling
      outs_so = λ i. let x = sym (same_coord o n p file h stands) i in let d = again_all x.doings x in d.outs ++ tolds_again x.telling

      both : es ++ map query_about us ≡ tick_outs h
      both = λ i. (outs ∙ outs_so) i ++ map query_about ((held ∙ same_parts) i)

      all : loud es ++ map query_about us ≡ loud (tick_outs h)
      all = ap (λ xs. loud es ++ xs) (sym (sent_loud (map query_about us) (map_sent query_about us (λ u. refl)))) ∙ (sym (loud_both es (map query_about us)) ∙ ap loud both)

-- what is sent again of requests and tolds, one behind the other
pub sent_so : (old c : Coord) (telling : List (Uid × Intent)) (none es fs : List Effect) → none ≡ [] →
    c ≡ (let d = again_all old.doings old in d.part) → es ≡ none ++ (let d = again_all old.doings old in d.outs)
    → telling ≡ c.telling → fs ≡ es ++ tolds_again telling → fs ≡ (let d = again_all old.doings old in d.outs) ++ tolds_again old.telling
sent_so old c telling none es fs nothing part outs tells are =
    let again = again_all old.doings old in
    let same : telling ≡ old.telling = tells ∙ (ap (λ (x : Coord). x.telling) part ∙ again_telling old.doings old) in
    let first : es ≡ again.outs = outs ∙ ap (λ xs. xs ++ again.outs) nothing in
    are ∙ (λ i. first i ++ tolds_again (same i))
