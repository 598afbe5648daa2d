-- The slips that bad lines are named for, and when. Each has a test; a line is named for the first whose test it meets.
use Rattle.std.specs.Prelude.{ℕ, ◌+◌, ◌-◌, ◌*◌, List, [], ◌∷◌, length, codes, Bool, false, ◌==◌, ◌||◌, ◌&&◌, nat_le, nat_lt, not}
use Rattle.std.specs.Prelude.{if◌then◌else◌, Option, Some, None}
use Rattle.std.specs.List.{list_all, list_any}
use Rattle.std.specs.Str.{bytes_eq}
use Rattle.arj_journal.specs.declared.header.Header.{Header}
use Rattle.arj_journal.specs.declared.header.ObjectLine.{ObjectLine}
use Rattle.arj_main.specs.Pieces.{pieces, word}
use Rattle.arj_main.specs.declared.place.Place.{Place}
use Rattle.arj_main.specs.declared.place.Place.TheVariants as place
use Rattle.arj_main.specs.declared.slip.Slip.{Slip}
use Rattle.arj_main.specs.declared.slip.Slip.TheVariants as slip
use Rattle.arj_text.specs.Fields.{has_byte}
use Rattle.arj_text.specs.Label.{is_digit, is_label, is_letter}
use Rattle.arj_text.specs.declared.label.TheConstants.{LABEL_BYTES}

-- the first slip whose test is met
abbrev pub first_slip : List (Bool × Slip) → Option Slip
first_slip [] = None
first_slip ((met, found) ∷ rest) = if met then Some found else first_slip rest

-- the bytes begin with those of a byte order mark
abbrev pub begins_with_mark : List ℕ → Bool
begins_with_mark (a ∷ b ∷ c ∷ rest) = (a == 239) && (b == 187) && (c == 191)
begins_with_mark _ = false

-- the last byte is this one
abbrev pub ends_with_byte : ℕ → List ℕ → Bool
ends_with_byte byte [] = false
ends_with_byte byte (b ∷ []) = b == byte
ends_with_byte byte (b ∷ bs) = ends_with_byte byte bs

-- the first byte is this one
abbrev pub begins_with_byte : ℕ → List ℕ → Bool
begins_with_byte byte [] = false
begins_with_byte byte (b ∷ bs) = b == byte

-- a byte that has no picture: below a space, or the one behind the last printable character
abbrev pub is_control : ℕ → Bool
is_control b = nat_lt b 32 || (b == 127)

-- a space stands behind another
abbrev pub has_two_spaces : List ℕ → Bool
has_two_spaces [] = false
has_two_spaces (b ∷ bs) = ((b == 32) && begins_with_byte 32 bs) || has_two_spaces bs

-- slips of the text alone
abbrev pub text_slips : List ℕ → List (Bool × Slip)
text_slips line =
    (begins_with_mark line, slip.Mark)
    ∷ (ends_with_byte 13 line, slip.CarriageReturn)
    ∷ (has_byte 9 line, slip.Tab)
    ∷ (list_any is_control line, slip.Control)
    ∷ (begins_with_byte 32 line, slip.SpaceFirst)
    ∷ (ends_with_byte 32 line, slip.SpaceLast)
    ∷ (has_two_spaces line, slip.TwoSpaces)
    ∷ (list_any (λ b. nat_lt 127 b) line, slip.Foreign)
    ∷ (has_byte 35 line, slip.Comment)
    ∷ []

-- one of these words
abbrev pub is_one_of : List (List ℕ) → List ℕ → Bool
is_one_of words w = list_any (λ text. bytes_eq w text) words

-- the words that lines of the header begin with
abbrev pub header_words : List (List ℕ)
header_words = codes "nodes" ∷ codes "format" ∷ codes "object" ∷ codes "run" ∷ []

-- the words that events begin with behind which a label stands
abbrev pub labelled_words : List (List ℕ)
labelled_words =
    codes "begin" ∷ codes "top" ∷ codes "serial" ∷ codes "call" ∷ codes "include" ∷ codes "commit" ∷ codes "abort" ∷ codes "giveup" ∷ []

-- the words that all other events begin with
abbrev pub outer_words : List (List ℕ)
outer_words =
    codes "deliver" ∷ codes "lose" ∷ codes "tick" ∷ codes "settle" ∷ codes "quiesce" ∷ codes "crash" ∷ codes "restart" ∷ codes "stop" ∷ codes "junk" ∷ codes "show" ∷ []

-- the names of the classes
abbrev pub class_words : List (List ℕ)
class_words = codes "counter" ∷ codes "account" ∷ codes "register" ∷ codes "queue" ∷ codes "table" ∷ []

-- a word that an event begins with
abbrev pub is_event_word : List ℕ → Bool
is_event_word w = is_one_of labelled_words w || is_one_of outer_words w

-- a word that stands for a class and is none
abbrev pub is_strange_class : List ℕ → Bool
is_strange_class [] = false
is_strange_class (b ∷ bs) = not (is_one_of class_words (b ∷ bs))

-- digits alone, at least one
abbrev pub is_number : List ℕ → Bool
is_number w = nat_lt 0 (length w) && list_all is_digit w

-- what one to three digits say; 1000 for more, which is no node and no object
abbrev pub small_number : List ℕ → ℕ
small_number (a ∷ []) = a - 48
small_number (a ∷ b ∷ []) = (a - 48) * 10 + (b - 48)
small_number (a ∷ b ∷ c ∷ []) = (a - 48) * 100 + (b - 48) * 10 + (c - 48)
small_number _ = 1000

-- a number that isn't one of so many nodes
abbrev pub is_no_node : ℕ → List ℕ → Bool
is_no_node nodes item = is_number item && ((small_number item == 0) || nat_lt nodes (small_number item))

-- a list in which some number isn't one of so many nodes
abbrev pub names_no_node : ℕ → List ℕ → Bool
names_no_node nodes items = list_any (is_no_node nodes) (pieces 44 items)

-- one of these objects has the number
abbrev pub some_has_number : ℕ → List ObjectLine → Bool
some_has_number number objects = list_any (λ o. o.x == number) objects

-- the number of one of these objects
abbrev pub names_object : List ObjectLine → List ℕ → Bool
names_object objects w = is_number w && some_has_number (small_number w) objects

-- a byte is neither a letter nor a digit
abbrev pub has_sign : List ℕ → Bool
has_sign w = list_any (λ b. not (is_letter b || is_digit b)) w

-- a label: a letter, and at most 15 letters or digits behind it
abbrev pub is_label_text : List ℕ → Bool
is_label_text w = nat_le (length w) LABEL_BYTES && is_label w

-- slips in the first line
abbrev pub start_slips : List ℕ → List (Bool × Slip)
start_slips line =
    (is_event_word (word 0 line), slip.EventBeforeRun)
    ∷ (not (bytes_eq (word 0 line) (codes "nodes")), slip.NoNodes)
    ∷ []

-- slips in a header: of the words of an object's line, those of the class, the two lists and the number are looked at
abbrev pub header_slips : Header → List ℕ → List (Bool × Slip)
header_slips header line =
    (is_event_word (word 0 line), slip.EventBeforeRun)
    ∷ (bytes_eq (word 0 line) (codes "nodes"), slip.NodesTwice)
    ∷ (bytes_eq (word 0 line) (codes "format"), slip.Format)
    ∷ (not (is_one_of header_words (word 0 line)), slip.UnknownWord)
    ∷ (is_strange_class (word 2 line), slip.UnknownClass)
    ∷ (names_no_node header.nodes (word 5 line), slip.NoNode)
    ∷ (names_no_node header.nodes (word 7 line), slip.NoNode)
    ∷ (names_object header.objects (word 1 line), slip.ObjectTwice)
    ∷ []

-- slips behind `run`
abbrev pub event_slips : List ℕ → List (Bool × Slip)
event_slips line =
    (is_one_of header_words (word 0 line), slip.HeaderBehindRun)
    ∷ (not (is_event_word (word 0 line)), slip.UnknownWord)
    ∷ (is_one_of labelled_words (word 0 line) && has_sign (word 1 line), slip.LabelSign)
    ∷ (is_one_of labelled_words (word 0 line) && not (is_label_text (word 1 line)), slip.LabelForm)
    ∷ []

-- slips at a place
abbrev pub place_slips : Place → List ℕ → List (Bool × Slip)
place_slips place.Start line = start_slips line
place_slips (place.Header header) line = header_slips header line
place_slips place.Running line = event_slips line

-- this slip, if there is one, else that
abbrev pub or_slip : Option Slip → Option Slip → Option Slip
or_slip None other = other
or_slip (Some found) other = Some found

-- the slip of a line at its place: of its text alone, else at its place
abbrev pub slip_at : Place → List ℕ → Option Slip
slip_at here line = or_slip (first_slip (text_slips line)) (first_slip (place_slips here line))
