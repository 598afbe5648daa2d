-- Lines of one part say nothing of the locks of another.
use Rattle.std.proofs.Common.{◌≡◌, ℕ, List, [], ◌∷◌, Bool, true, false, refl, ◌∙◌, ◌==◌, ◌&&◌}
use Rattle.std.proofs.lemmas.Bool.{and_parts, eqb-true}
use Rattle.std.specs.Prelude.{⊤, if◌then◌else◌}
use Rattle.std.specs.List.{list_all}
use Rattle.arj_protocol.specs.Words.{Uid, Body, Row, Part, uid_eq, object, entry}
use Rattle.arj_protocol.specs.Words.body
use Rattle.arj_protocol.specs.Words.part
use Rattle.arj_protocol.specs.Effect.{Effect, Say, Send, Do}
use Rattle.arj_protocol.specs.Says.{AreAll, is_server_effect, is_server_line, is_naming_effect, is_naming_line, is_coord_effect}
use Rattle.arj_protocol.specs.Says.{is_coord_line, is_object, is_entry, is_server, is_naming}
use Rattle.arj_protocol.specs.Laws.{Holders, rows_by, rows_after, same_part}

-- the effect changes no row at this part
abbrev pub Quiet : Holders → ℕ → Part → Uid → Effect → Type 0
Quiet h n p o (Say b) = (rows : List Row) → rows_by h n p o b rows ≡ rows
Quiet h n p o (Send to m) = ⊤
Quiet h n p o (Do w) = ⊤

pub all_quiet : (h : Holders) (n : ℕ) (p : Part) (o : Uid) (test : Effect → Bool) → ((e : Effect) → test e ≡ true → Quiet h n p o e) →
    (es : List Effect) → AreAll test es → (rows : List Row) → rows_after h n p o es rows ≡ rows
all_quiet h n p o test quiet [] all rows = refl
all_quiet h n p o test quiet (e ∷ es) all rows =
    let q = and_parts (test e) (list_all test es) all in
    by e (quiet e q.0) (all_quiet h n p o test quiet es q.1)
  where
    by : (e : Effect) → Quiet h n p o e → ((rows : List Row) → rows_after h n p o es rows ≡ rows) → rows_after h n p o (e ∷ es) rows ≡ rows
    by (Say b) own ih = ih (rows_by h n p o b rows) ∙ own rows
    by (Send to m) own ih = ih rows
    by (Do w) own ih = ih rows

if_none : (b : Bool) (rows others : List Row) → (if b && false then others else rows) ≡ rows
if_none true rows others = refl
if_none false rows others = refl

-- an object's Uid is none of an entry, and the other way round
object_apart : (o : Uid) (x : ℕ) → is_object o ≡ true → uid_eq o (entry x) ≡ false
object_apart o x is =
    let q = and_parts (o.node == 0) (o.inc == 0) is in
    let zero_inc : o.inc ≡ 0 = eqb-true o.inc 0 q.1 in
    rw zero_inc (none (o.node == 0))
  where
    none : (b : Bool) → (b && false) ≡ false
    none true = refl
    none false = refl

entry_apart : (o : Uid) (x : ℕ) → is_entry o ≡ true → uid_eq o (object x) ≡ false
entry_apart o x is =
    let q = and_parts (o.node == 0) (o.inc == 1) is in
    let one_inc : o.inc ≡ 1 = eqb-true o.inc 1 q.1 in
    rw one_inc (none (o.node == 0))
  where
    none : (b : Bool) → (b && false) ≡ false
    none true = refl
    none false = refl

if_apart : (a b : Bool) (rows others : List Row) → b ≡ false → (if a && b then others else rows) ≡ rows
if_apart a b rows others is = rw is (if_none a rows others)

-- a server's lines at naming
pub server_quiet : (h : Holders) (n x : ℕ) (e : Effect) → is_server_effect n e ≡ true → Quiet h 1 part.Naming (entry x) e
server_quiet h n x (Say b) is = by b is
  where
    parts : (p : Part) (m : ℕ) (rows others : List Row) → ((m == n) && is_server p) ≡ true →
        (if (m == 1) && same_part part.Naming p then others else rows) ≡ rows
    parts part.Server m rows others is = if_none (m == 1) rows others
    parts part.Naming m rows others is = absurd (cc ((and_parts (m == n) false is).1))

    by : (b : Body) → is_server_line n b ≡ true → (rows : List Row) → rows_by h 1 part.Naming (entry x) b rows ≡ rows
    by (body.Granted m u o how) is rows =
        if_apart (m == 1) (uid_eq o (entry x)) rows _ (object_apart o x (and_parts (m == n) (is_object o) is).1)
    by (body.Active m y c) is rows = if_none (m == 1) rows []
    by (body.Told m u e p) is rows = parts p m rows _ is
    by _ is rows = absurd (cc is)
server_quiet h n x (Send to m) is = tt
server_quiet h n x (Do w) is = tt

-- naming's lines at a server
pub naming_quiet : (h : Holders) (n x : ℕ) (e : Effect) → is_naming_effect e ≡ true → Quiet h n part.Server (object x) e
naming_quiet h n x (Say b) is = by b is
  where
    parts : (p : Part) (m : ℕ) (rows others : List Row) → ((m == 1) && is_naming p) ≡ true →
        (if (m == n) && same_part part.Server p then others else rows) ≡ rows
    parts part.Naming m rows others is = if_none (m == n) rows others
    parts part.Server m rows others is = absurd (cc ((and_parts (m == 1) false is).1))

    by : (b : Body) → is_naming_line b ≡ true → (rows : List Row) → rows_by h n part.Server (object x) b rows ≡ rows
    by (body.Granted m u o how) is rows =
        if_apart (m == n) (uid_eq o (object x)) rows _ (entry_apart o x (and_parts (m == 1) (is_entry o) is).1)
    by (body.Lowered m u o) is rows =
        if_apart (m == n) (uid_eq o (object x)) rows _ (entry_apart o x (and_parts (m == 1) (is_entry o) is).1)
    by (body.Bound y c m) is rows = refl
    by (body.Told m u e p) is rows = parts p m rows _ is
    by (body.Prepared m u r) is rows = refl
    by (body.Done m u r e) is rows = refl
    by _ is rows = absurd (cc is)
naming_quiet h n x (Send to m) is = tt
naming_quiet h n x (Do w) is = tt

-- a coordinator's lines anywhere
pub coord_quiet : (h : Holders) (n : ℕ) (p : Part) (o : Uid) (e : Effect) → is_coord_effect e ≡ true → Quiet h n p o e
coord_quiet h n p o (Say b) is = by b is
  where
    by : (b : Body) → is_coord_line b ≡ true → (rows : List Row) → rows_by h n p o b rows ≡ rows
    by (body.Began l k u q) is rows = refl
    by (body.Ok l y op a) is rows = refl
    by (body.Includes l y s) is rows = refl
    by (body.Conflict l q m k) is rows = refl
    by (body.Lost l k) is rows = refl
    by (body.Changed l k d) is rows = refl
    by (body.Committing l) is rows = refl
    by (body.Committed l) is rows = refl
    by (body.Ended l) is rows = refl
    by (body.Aborted l c) is rows = refl
    by (body.GaveUp l k) is rows = refl
    by (body.Excluded l y s) is rows = refl
    by _ is rows = absurd (cc is)
coord_quiet h n p o (Send to m) is = tt
coord_quiet h n p o (Do w) is = tt
