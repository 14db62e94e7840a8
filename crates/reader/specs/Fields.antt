-- The fields of a line: each has a form and then a range. Fields are split by commas. Assumes nothing.
use Rattle.std.specs.Prelude.{ℕ, cond, ◌&&◌, List, [], ◌∷◌, length, Some, None, Ok, Err, Option, Result, ◌==◌, nat_le, nat_lt}
use Rattle.std.specs.Option.{ok_or}
use Rattle.units.specs.Limits.{classes, most_cycle, least_frame, most_frame, most_depth, least_burst, most_burst, most_rate_ticks, most_period, most_jitter}
use Rattle.faults.specs.declared.fault.FieldFault.{FieldFault}
use Rattle.faults.specs.declared.fault.FieldFault.TheVariants.{Form, Range}
use Rattle.gates.specs.declared.gate_line.Gate.{Gate}
use Rattle.gates.specs.declared.gate_line.Gate.TheVariants.{Open, Shut}
use Rattle.gates.specs.declared.gate_line.GateLine.{GateLine}
use Rattle.text.specs.Cuts.{before, past}
use Rattle.text.specs.Marks.{comma, open_letter, shut_letter, bucket_letter, periodic_letter}
use Rattle.text.specs.Numerals.{numeral_in}
use Rattle.reader.specs.declared.parsed.Kind.{Kind}
use Rattle.reader.specs.declared.parsed.Kind.TheVariants.{Bucket, Periodic}
use Rattle.reader.specs.Chain.{and_then}
use Rattle.reader.specs.Contents.{Flow, bucket, periodic, ClassEntry}

-- In what follows k is the number of the line, and xs is the field or, where there are several, the fields that are left.

-- a number
abbrev pub numeral_field : ℕ → List ℕ → Result ℕ FieldFault
numeral_field k xs = ok_or (numeral_in xs) (Form k)

-- its range
abbrev pub ranged : ℕ → ℕ → ℕ → ℕ → Result ℕ FieldFault
ranged k least most n = cond (nat_le least n && nat_le n most) (Ok n) (Err (Range k))

-- a number from least to most
unfoldable pub number_field : ℕ → ℕ → ℕ → List ℕ → Result ℕ FieldFault
number_field k least most xs = and_then (numeral_field k xs) (ranged k least most)

-- the largest frame of a class: 0 or 64 to 1,522
unfoldable pub largest_field : ℕ → List ℕ → Result ℕ FieldFault
largest_field k xs = and_then (number_field k 0 most_frame xs) (λ n. cond (nat_lt 0 n && nat_lt n least_frame) (Err (Range k)) (Ok n))

-- the letter of a kind of flow: b or p
abbrev pub kind_in : ℕ → List ℕ → Result Kind FieldFault
kind_in k [] = Err (Form k)
kind_in k (x ∷ []) = cond (x == bucket_letter) (Ok Bucket) (cond (x == periodic_letter) (Ok Periodic) (Err (Form k)))
kind_in k (x ∷ y ∷ xs) = Err (Form k)

-- the gates that letters write, O open and C shut, in front of those that came before them; nothing if a letter is another
unfoldable pub letters_from : List Gate → List ℕ → Option (List Gate)
letters_from gs [] = Some gs
letters_from gs (x ∷ xs) = cond (x == open_letter) (letters_from (Open ∷ gs) xs) (cond (x == shut_letter) (letters_from (Shut ∷ gs) xs) None)

-- eight letters, class 7 first: the gate of class c is the entry c
unfoldable pub gates_in : ℕ → List ℕ → Result (List Gate) FieldFault
gates_in k xs = cond (length xs == classes) (ok_or (letters_from [] xs) (Form k)) (Err (Form k))

-- a gate line: its length, and its gates
unfoldable pub gate_in : ℕ → List ℕ → Result GateLine FieldFault
gate_in k xs =
    and_then (number_field k 1 most_cycle (before comma xs)) (λ n.
    and_then (gates_in k (before comma (past comma xs))) (λ gs.
    Ok (record { length = record { 0 = n }; gates = gs })))

-- the greatest depth of a class with the largest frame m
abbrev pub room_most : ℕ → ℕ
room_most m = cond (m == 0) 0 most_depth

-- the sizes of a class: its largest frame, and a depth from that to 16,384, or 0
unfoldable pub sizes_in : ℕ → List ℕ → Result ClassEntry FieldFault
sizes_in k xs =
    and_then (largest_field k (before comma xs)) (λ m.
    and_then (number_field k m (room_most m) (before comma (past comma xs))) (λ d.
    Ok (record { largest = m; depth = d })))

-- the numbers of a bucket: num is held against den after den's own checks
unfoldable pub bucket_in : ℕ → List ℕ → Result Flow FieldFault
bucket_in k xs =
    and_then (number_field k least_burst most_burst (before comma xs)) (λ burst.
    and_then (numeral_field k (before comma (past comma xs))) (λ num.
    and_then (number_field k 1 most_rate_ticks (before comma (past comma (past comma xs)))) (λ den.
    cond (nat_le num den) (Ok (bucket burst num den)) (Err (Range k)))))

-- the numbers of a periodic flow in a class with the largest frame m
unfoldable pub periodic_in : ℕ → ℕ → List ℕ → Result Flow FieldFault
periodic_in k m xs =
    and_then (number_field k least_frame m (before comma xs)) (λ bytes.
    and_then (number_field k 1 most_period (before comma (past comma xs))) (λ period.
    and_then (number_field k 0 most_jitter (before comma (past comma (past comma xs)))) (λ jitter.
    Ok (periodic bytes period jitter))))

-- the numbers of a flow
abbrev pub flow_in : ℕ → Kind → ℕ → List ℕ → Result Flow FieldFault
flow_in k Bucket m xs = bucket_in k xs
flow_in k Periodic m xs = periodic_in k m xs
