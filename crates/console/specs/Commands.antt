-- What command a line writes. Assumes nothing.
use Rattle.std.specs.Prelude.{◌≡◌, ℕ, cond, List, length, Some, None, Ok, Err, codes, Option, Result, ◌==◌}
use Rattle.std.specs.Borrow.{Bor}
use Rattle.std.specs.Str.{bytes_eq}
use Rattle.reading.specs.Numerals.{numeral}
use Rattle.reading.specs.Words.{first_word, after_word, uncommented}
use Rattle.console.specs.declared.command.Command.{Command}
use Rattle.console.specs.declared.command.Command.TheVariants.{Product, Enter, Top, Range, Tape, Hex}
use Rattle.console.specs.declared.command.Fault.{Fault}
use Rattle.console.specs.declared.command.Fault.TheVariants.{Unknown, Side as NoSide, Number, Limit as NoLimit, Duration as NoDuration, Surplus}
use Rattle.console.specs.declared.command.Order.{Order}
use Rattle.console.specs.declared.command.Verb.{Verb}
use Rattle.console.specs.declared.command.Verb.TheVariants.{Product as ProductWord, Enter as EnterWord, Top as TopWord, Range as RangeWord, Tape as TapeWord, Hex as HexWord}
use Rattle.console.specs.declared.command.Span.{Span}
use Rattle.console.specs.declared.command.Span.TheVariants.{Now as NowWord, Session as SessionWord, Day as DayWord, Until as UntilWord, UntilCancelled as UntilCancelledWord}
use Rattle.terms.specs.declared.duration.Duration.{Duration}
use Rattle.terms.specs.declared.duration.Duration.TheVariants.{Now, Session, Day, Until, UntilCancelled}
use Rattle.terms.specs.declared.side.Side.{Side}
use Rattle.terms.specs.declared.side.Side.TheVariants.{Buy, Sell}

abbrev pub when_some : {A B : Type 0} → Option A → Fault → (A → Result B Fault) → Result B Fault
when_some None fault next = Err fault
when_some (Some x) fault next = next x

abbrev pub side_of : List ℕ → Option Side
side_of word = cond (bytes_eq word (codes "buy")) (Some Buy) (cond (bytes_eq word (codes "sell")) (Some Sell) None)

abbrev pub limited : Option ℕ → Option (Option ℕ)
limited None = None
limited (Some price) = Some (Some price)

-- the line goes on with a number, or with a side, and then as `next` says
abbrev pub with_number : {B : Type 0} → List ℕ → (ℕ → List ℕ → Result B Fault) → Result B Fault
with_number text next = when_some (numeral (first_word text)) Number (λ n. next n (after_word text))

abbrev pub with_side : {B : Type 0} → List ℕ → (Side → List ℕ → Result B Fault) → Result B Fault
with_side text next = when_some (side_of (first_word text)) NoSide (λ side. next side (after_word text))

-- a price, or the word market for none
abbrev pub limit_of : List ℕ → Option (Option ℕ)
limit_of word = cond (bytes_eq word (codes "market")) (Some None) (limited (numeral word))

abbrev pub span_of : List ℕ → Option Span
span_of word =
    cond (bytes_eq word (codes "now")) (Some NowWord)
    (cond (bytes_eq word (codes "session")) (Some SessionWord)
    (cond (bytes_eq word (codes "day")) (Some DayWord)
    (cond (bytes_eq word (codes "until")) (Some UntilWord)
    (cond (bytes_eq word (codes "until-cancelled")) (Some UntilCancelledWord) None))))

abbrev pub with_limit : {B : Type 0} → List ℕ → (Option ℕ → List ℕ → Result B Fault) → Result B Fault
with_limit text next = when_some (limit_of (first_word text)) NoLimit (λ limit. next limit (after_word text))

abbrev pub Plain : Duration → List ℕ → Result (Duration × Bor (List ℕ)) Fault → Type 0
Plain duration text (Ok p) = (p.0 ≡ duration) × (p.1.now ≡ text)
Plain duration text (Err f) = ⊥

abbrev pub duration_date : Duration → ℕ
duration_date Now = 0
duration_date Session = 0
duration_date Day = 0
duration_date (Until date) = date
duration_date UntilCancelled = 0

-- only a duration until a date goes on with one
abbrev pub with_date : {B : Type 0} → Span → List ℕ → (Duration → List ℕ → Result B Fault) → Result B Fault
with_date NowWord text next = next Now text
with_date SessionWord text next = next Session text
with_date DayWord text next = next Day text
with_date UntilWord text next = with_number text (λ date text. next (Until date) text)
with_date UntilCancelledWord text next = next UntilCancelled text

abbrev pub with_duration : {B : Type 0} → List ℕ → (Duration → List ℕ → Result B Fault) → Result B Fault
with_duration text next = when_some (span_of (first_word text)) NoDuration (λ span. with_date span (after_word text) next)

abbrev pub Dated : Span → List ℕ → Result (Duration × Bor (List ℕ)) Fault → Type 0
Dated NowWord text r = Plain Now text r
Dated SessionWord text r = Plain Session text r
Dated DayWord text r = Plain Day text r
Dated UntilWord text (Ok p) = (numeral (first_word text) ≡ Some (duration_date p.0)) × (p.0 ≡ Until (duration_date p.0)) × (p.1.now ≡ after_word text)
Dated UntilWord text (Err f) = (numeral (first_word text) ≡ None) × (f ≡ Number)
Dated UntilCancelledWord text r = Plain UntilCancelled text r

-- nothing more stands on the line
abbrev pub ends : List ℕ → Command → Result Command Fault
ends text command = cond (length (first_word text) == 0) (Ok command) (Err Surplus)

-- a part of a line is read, and the rest handed on; or the line is at fault
abbrev pub Starts : {A : Type 0} → (List ℕ → Result A Fault → Type 0) → List ℕ → Result (A × Bor (List ℕ)) Fault → Type 0
Starts Reads text (Ok p) = Reads (first_word text) (Ok p.0) × (p.1.now ≡ after_word text)
Starts Reads text (Err fault) = Reads (first_word text) (Err fault)

abbrev pub verb_of : List ℕ → Option Verb
verb_of word =
    cond (bytes_eq word (codes "product")) (Some ProductWord)
    (cond (bytes_eq word (codes "enter")) (Some EnterWord)
    (cond (bytes_eq word (codes "top")) (Some TopWord)
    (cond (bytes_eq word (codes "range")) (Some RangeWord)
    (cond (bytes_eq word (codes "tape")) (Some TapeWord)
    (cond (bytes_eq word (codes "hex")) (Some HexWord) None)))))

-- sweep ticks, daily ticks, reference price
abbrev pub product_line : List ℕ → Result Command Fault
product_line text =
    with_number text (λ sweep text. with_number text (λ daily text. with_number text (λ reference text.
    ends text (Product sweep daily reference))))

abbrev pub order_of : Side → ℕ → Option ℕ → ℕ → Duration → Order
order_of side quantity limit participant duration =
    record { side = side; quantity = quantity; limit = limit; participant = participant; duration = duration }

-- side, quantity, price or market, participant, duration
abbrev pub order_line : List ℕ → Result Command Fault
order_line text =
    with_side text (λ side text. with_number text (λ quantity text. with_limit text (λ limit text. with_number text (λ participant text.
    with_duration text (λ duration text. ends text (Enter (order_of side quantity limit participant duration)))))))

abbrev pub line_by : Verb → List ℕ → Result Command Fault
line_by ProductWord text = product_line text
line_by EnterWord text = order_line text
line_by TopWord text = ends text Top
line_by RangeWord text = ends text Range
line_by TapeWord text = ends text Tape
line_by HexWord text = ends text Hex

abbrev pub some_command : Result Command Fault → Result (Option Command) Fault
some_command (Ok command) = Ok (Some command)
some_command (Err fault) = Err fault

-- a line without words asks for nothing
abbrev pub command_line : List ℕ → Result (Option Command) Fault
command_line line =
    cond (length (first_word (uncommented line)) == 0) (Ok None)
    (when_some (verb_of (first_word (uncommented line))) Unknown (λ verb. some_command (line_by verb (after_word (uncommented line)))))
