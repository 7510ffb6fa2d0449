-- What a command is answered with, and how the answer is written. Assumes nothing.
use Rattle.std.specs.Prelude.{ℕ, List, ◌++◌, length, ℤ, Some, None, Ok, Err, IfOk, vec_items, codes, decimal, Option, Result}
use Rattle.std.specs.Result.{result_map_both}
use Rattle.std.specs.List.{flat_map}
use Rattle.std.specs.Fmt.{signed_decimal}
use Rattle.spread.specs.declared.fault.SpreadFault.{SpreadFault}
use Rattle.spread.specs.declared.units.Kwh.{Kwh}
use Rattle.spread.specs.Faults.{told, layer_text, reason_text}
use Rattle.spread.specs.Keys.{flat, line, flat_fault, list_fault, line_fault}
use Rattle.spread.specs.Laws.{Lawful}
use Rattle.spread.specs.Outcome.{or_else}
use Rattle.spread.specs.Shares.{share, spread_fault}
use Rattle.monthfile.specs.declared.answer.Answer.{Answer}
use Rattle.monthfile.specs.Said.{SaidKey, say_flat, say_list, say_line, Said, say_spread}

-- what an answer tells: the parts, whatever memory holds them, or the refusal
abbrev pub tells : Answer → Result (List Kwh) SpreadFault
tells a = result_map_both vec_items (λ f. f) a.0

-- the parts of t over ws, where there are parts, keep the laws of the spread
abbrev pub KeepsLaws : ℤ → List ℕ → Result (List Kwh) SpreadFault → Type 0
KeepsLaws t ws r = IfOk r (λ es. Lawful t ws es)

-- refused by f, if there is one, else es
abbrev pub reply_by : Option SpreadFault → List Kwh → Result (List Kwh) SpreadFault
reply_by None es = Ok es
reply_by (Some f) es = Err f

-- a total over the weights of a key
abbrev pub spread_reply : ℤ → List ℕ → Result (List Kwh) SpreadFault
spread_reply t ws = reply_by (spread_fault t ws (length ws)) (share t ws)

-- why a key is not made of what was said
abbrev pub key_fault : SaidKey → Option SpreadFault
key_fault (say_flat n) = flat_fault n
key_fault (say_list ws) = list_fault ws
key_fault (say_line g a b) = line_fault g a b

-- the weights of the key that was said
abbrev pub key_weights : SaidKey → List ℕ
key_weights (say_flat n) = flat n
key_weights (say_list ws) = ws
key_weights (say_line g a b) = line g a b

-- the same of the answer to a command
abbrev pub LawfulReply : Said → Result (List Kwh) SpreadFault → Type 0
LawfulReply (say_spread t k) r = KeepsLaws t (key_weights k) r

-- the key is made first, then the total is spread over it
abbrev pub reply_to : Said → Result (List Kwh) SpreadFault
reply_to (say_spread t k) = reply_by (or_else (key_fault k) (spread_fault t (key_weights k) (length (key_weights k)))) (share t (key_weights k))

-- a part after a space
abbrev pub part_text : Kwh → List ℕ
part_text e = codes " " ++ signed_decimal e.0

-- what is written of an answer
abbrev pub reply_text : Result (List Kwh) SpreadFault → List ℕ
reply_text (Ok es) = codes "ok" ++ flat_map part_text es
reply_text (Err f) = codes "refused " ++ (decimal (told f).number ++ (codes " " ++ (layer_text (told f).layer ++ (codes ": " ++ reason_text f))))
