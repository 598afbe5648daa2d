-- Inside of an event all lines behind the first ones are of it, and no node starts by them, unless the event restarts one.
use Rattle.arj_law_parts.proofs.Words
use Words.{⊎_elim, ◌≡◌, ◌∙◌, ◌==◌, ◌+◌, ◌++◌, ◌&&◌, ℕ, Bool, true, false, if◌then◌else◌, List, [], ◌∷◌, map, Some, None, refl, sym, ap}
use Words.{subst, list_all}
use Words.{and_parts, append_assoc, map-append, Body, Event, Header, Line, Message, Disk, Do, Effect, Say, Send, worked, Parts, Took}
use Words.{handle, with_coord, AreAll, is_coord_effect}
use Words.{is_coord_line, is_naming_line, is_server_line, acts as does, again_all, begin_action, tick_outs, parent_of, parts_in}
use Words.{restart_outs, numbered, is_serial, acts_own, again_own, map_own}
use Words.{tolds_again_own, all_both, holders, query_about, tolds_again, Post, frame_kind}
use Words.body
use Words.frame
use Words.input
use Rattle.arj_law_lock_view.proofs.Terms.{never}
use Rattle.arj_law_parts.proofs.moves.Flat.{post}
use Rattle.arj_law_parts.specs.moves.Moments.{Moment, asks_now, at, fits, framed_if, given, is_restart, posted, said, sent, up}
use Rattle.arj_law_parts.specs.moves.Seen.{is_quiet_line}
use Rattle.arj_law_parts.specs.moves.With.{ArePlain, KeepsSteps, UpWith, WalksWith, is_plain_line}
use Rattle.arj_law_serial.proofs.holding.Says.{All, handle_says, kind_says, outs_of, says}
use Rattle.arj_law_serial.proofs.holding.Sorts.{by_kind, is_no_start}
use Rattle.std.proofs.lemmas.List.Folds.{list_all-append}
use Rattle.arj_law_cause.specs.rows.Tables.{Inside, NoStarts}

-- ---- lines by which no node starts

server_none : (j n : ℕ) (b : Body) → is_server_line n b ≡ true → is_no_start j b ≡ true
server_none j n = by_kind (λ b. is_server_line n b ≡ true → is_no_start j b ≡ true) (λ b plain is. plain.none j) (λ l k u p is. refl)
    (λ m u o how is. refl) (λ m u o is. refl) (λ m x c is. refl) (λ m u e q is. refl) (λ m is. refl) (λ m i is. absurd (cc is))

naming_none : (j : ℕ) (b : Body) → is_naming_line b ≡ true → is_no_start j b ≡ true
naming_none j = by_kind (λ b. is_naming_line b ≡ true → is_no_start j b ≡ true) (λ b plain is. plain.none j) (λ l k u p is. refl)
    (λ m u o how is. refl) (λ m u o is. refl) (λ m x c is. refl) (λ m u e q is. refl) (λ m is. refl) (λ m i is. absurd (cc is))

coord_none : (j : ℕ) (b : Body) → is_coord_line b ≡ true → is_no_start j b ≡ true
coord_none j = by_kind (λ b. is_coord_line b ≡ true → is_no_start j b ≡ true) (λ b plain is. plain.none j) (λ l k u p is. refl)
    (λ m u o how is. refl) (λ m u o is. refl) (λ m x c is. refl) (λ m u e q is. refl) (λ m is. refl) (λ m i is. absurd (cc is))

quiet_none : (j : ℕ) (b : Body) → is_quiet_line b ≡ true → is_no_start j b ≡ true
quiet_none j = by_kind (λ b. is_quiet_line b ≡ true → is_no_start j b ≡ true) (λ b plain is. plain.none j) (λ l k u p is. refl)
    (λ m u o how is. refl) (λ m u o is. refl) (λ m x c is. refl) (λ m u e q is. refl) (λ m is. refl) (λ m i is. absurd (cc is))

plain_is : (b : Body) → is_plain_line b ≡ true → is_quiet_line b ≡ true
plain_is (body.Sent k from to what) h = refl
plain_is b h = h

plain_none : (bs : List Body) → ArePlain bs → NoStarts bs
plain_none [] plain j = refl
plain_none (b ∷ bs) plain j = let q = and_parts (is_plain_line b) (list_all is_plain_line bs) plain in
    λ i. quiet_none j b (plain_is b q.0) i && plain_none bs q.1 j i

-- so it is of effects
abbrev pub SayNoStarts : List Effect → Type 0
SayNoStarts outs = (j : ℕ) → All (is_no_start j) outs

pub coord_starts : (outs : List Effect) → AreAll is_coord_effect outs → SayNoStarts outs
coord_starts outs own j = kind_says (is_no_start j) is_coord_effect is_coord_line (λ b. refl) (coord_none j) outs own

pub handle_starts : (k : ℕ) (d : Disk) (t v : Parts) (from : ℕ) (m : Message) (outs : List Effect) → handle k d t from m ≡ Took v outs →
    SayNoStarts outs
handle_starts k d t v from m outs is j = ⊎_elim {C = All (is_no_start j) outs}
    (λ own. coord_starts outs (subst (λ z. AreAll is_coord_effect (outs_of z)) is own) j)
    (λ all. subst (λ z. All (is_no_start j) (outs_of z)) is all)
    (handle_says (is_no_start j) k (Unit {0}) (server_none j k) (λ may. naming_none j) (λ u r. refl) (λ u r e. refl) d t from m
    (λ o there. tt))

tick_starts : (k : ℕ) (d : Disk) (t : Parts) → SayNoStarts (tick_outs (record { number = k; disk = d; live = Some t }) t)
tick_starts k d t =
    let r = again_all t.coord.doings t.coord in
    coord_starts (tick_outs (record { number = k; disk = d; live = Some t }) t)
    (all_both is_coord_effect (r.outs ++ tolds_again t.coord.telling) (map query_about (holders d t)) (all_both is_coord_effect
    r.outs (tolds_again t.coord.telling) (again_own t.coord.doings t.coord) (tolds_again_own t.coord.telling))
    (map_own query_about (holders d t) (λ u. refl)))

-- ---- an event

module _ (before : List Line) (event : ℕ) where
  more : (M : Moment) (ws bs : List Body) → M.past.number ≡ event → M.seen.lines ≡ before ++ numbered event ws →
      M.seen.lines ++ numbered M.past.number bs ≡ before ++ numbered event (ws ++ bs)
  more M ws bs number lines = (λ i. lines i ++ numbered (number i) bs) ∙ append_assoc before (numbered event ws) (numbered event bs)
      ∙ ap (λ ls. before ++ ls) (sym (map-append (λ (b : Body). record { event = event; body = b }) ws bs))

  pub said_inside : (bs : List Body) (M : Moment) → (is_restart M.past.event ≡ false → NoStarts bs) → Inside before event M →
      Inside before event (said bs M)
  said_inside bs M none h = record {
    number = h.number;
    wrote = h.wrote ++ bs;
    lines = more M h.wrote bs h.number h.lines;
    starts = λ is. λ j. list_all-append (is_no_start j) h.wrote bs ∙ (λ i. h.starts is j i && none is j i);
  }

  same_inside : (M N : Moment) → N.past.number ≡ M.past.number → N.past.event ≡ M.past.event → N.seen.lines ≡ M.seen.lines →
      Inside before event M → Inside before event N
  same_inside M N number e lines h = record {
    number = number ∙ h.number;
    wrote = h.wrote;
    lines = lines ∙ h.lines;
    starts = λ is. h.starts (ap is_restart (sym e) ∙ is);
  }

  sent_inside : (p : Post) (M : Moment) → Inside before event M → Inside before event (sent p M)
  sent_inside p M h = by (p.to == p.from) (fits M)
    where
      lined_in : Inside before event (framed_if true p M)
      lined_in = let o = said_inside (body.Sent (M.past.frames + 1) p.from p.to (frame_kind p.message) ∷ []) M (λ is j. refl) h in
          record { number = o.number; wrote = o.wrote; lines = o.lines; starts = o.starts }

      by : (self fit : Bool) → Inside before event (if self then posted p M else framed_if fit p M)
      by true fit = same_inside M (posted p M) refl refl refl h
      by false true = lined_in
      by false false = h

  rest_well : (e : Event) (x : Effect) (es : List Effect) → (is_restart e ≡ false → SayNoStarts (x ∷ es)) → is_restart e ≡ false →
      SayNoStarts es
  rest_well e x es all is j = (and_parts (says (is_no_start j) x) (list_all (says (is_no_start j)) es) (all is j)).1

  rest_walk : (k : ℕ) (v : Parts) (es : List Effect) (d : Disk) (M : Moment) (p : Post) →
      ((N : Moment) → N.past.event ≡ M.past.event → Inside before event N →
      WalksWith (Inside before event) k es (UpWith (Inside before event) k v) d N) → (self fit : Bool) →
      Inside before event (if self then posted p M else framed_if fit p M) →
      WalksWith (Inside before event) k es (UpWith (Inside before event) k v) d (if self then posted p M else framed_if fit p M)
  rest_walk k v es d M p go true fit n = go (posted p M) refl n
  rest_walk k v es d M p go false true n = go (framed_if true p M) refl n
  rest_walk k v es d M p go false false n = go M refl n

  walk : (k : ℕ) (v : Parts) (outs : List Effect) (d : Disk) (M : Moment) → (is_restart M.past.event ≡ false → SayNoStarts outs) →
      Inside before event M →
      WalksWith (Inside before event) k outs (UpWith (Inside before event) k v) d M
  walk k v [] d M all h = same_inside M (up k d v M) refl refl refl h
  walk k v (Do w ∷ es) d M all h = (
    (λ how. let o = said_inside (body.Halted k ∷ []) M (λ is j. refl) h in
        record { number = o.number; wrote = o.wrote; lines = o.lines; starts = o.starts }),
    walk k v es (worked w d) M (rest_well M.past.event (Do w) es all) h,
  )
  walk k v (Say b ∷ es) d M all h = walk k v es d (said (b ∷ []) M) (rest_well M.past.event (Say b) es all) (said_inside (b ∷ []) M
      (λ is j. let q = and_parts (is_no_start j b) (list_all (says (is_no_start j)) es) (all is j) in λ i. q.0 i && true) h)
  walk k v (Send to m ∷ es) d M all h = rest_walk k v es d M (post k to m)
      (λ N same n. walk k v es d N (λ is. rest_well M.past.event (Send to m) es all (ap is_restart (sym same) ∙ is)) n)
      (to == k) (fits M) (sent_inside (post k to m) M h)

  pub inside_step : (hd : Header) → KeepsSteps hd (Inside before event)
  inside_step hd = record {
    quiet = λ bs M plain h. said_inside bs M (λ is. plain_none bs plain) h;
    junk = λ n M fit h. let o = said_inside (body.Sent (M.past.frames + 1) 0 n frame.Junk ∷ []) M (λ is j. refl) h in
        record { number = o.number; wrote = o.wrote; lines = o.lines; starts = o.starts };
    stop = λ k d live M h. let o = said_inside (body.Halted k ∷ []) M (λ is j. refl) (same_inside (at k d live M) M refl refl refl h) in
        record { number = o.number; wrote = o.wrote; lines = o.lines; starts = o.starts };
    message = λ k d t v from m outs M h there meant may is.
        walk k v outs d M (λ e. handle_starts k d t v from m outs is) (same_inside (up k d t M) M refl refl refl h);
    act = λ k d t i M is brings fresh asks free h. let did = does i d.intents t.coord in
        walk k (with_coord t did.part) did.outs d (asks_now i t.coord M) (λ e. coord_starts did.outs (acts_own i d.intents t.coord))
        (same_inside (up k d t M) (asks_now i t.coord M) refl refl refl h);
    begin = λ k d t l how parent M brings fresh new gives none h.
        let did = begin_action l how parent (parent_of parent t.coord) t.coord in
        walk k (with_coord t did.part) did.outs d (given l (record { node = k; serial = is_serial how }) M)
        (λ e. coord_starts did.outs (acts_own (input.Begin l how parent) d.intents t.coord))
        (same_inside (up k d t M) (given l (record { node = k; serial = is_serial how }) M) refl refl refl h);
    tick = λ k d t M h. walk k (with_coord t (let r = again_all t.coord.doings t.coord in r.part))
        (tick_outs (record { number = k; disk = d; live = Some t }) t) d M (λ e. tick_starts k d t)
        (same_inside (up k d t M) M refl refl refl h);
    restart = λ k d M event first h. walk k (parts_in k (d.inc + 1) d) (restart_outs hd k (d.inc + 1) d) d M
        (λ is. never (ap is_restart event) is) (same_inside (at k d None M) M refl refl refl h);
  }
