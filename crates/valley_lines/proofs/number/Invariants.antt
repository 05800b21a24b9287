-- The invariant: the digits that are left, behind the number so far, spell the word's number, and i digits are below 10 ^ i.
use Rattle.std.proofs.Common.{◌≡◌, ◌≤◌, ◌<◌, ◌^◌, length, drop}
use Rattle.valley_lines.specs.Read.{all_digits, value_behind, value}
use Rattle.valley_lines.proofs.number.Given as goal

abbrev pub invariant-loop-b : goal.invariant-loop-b
invariant-loop-b l = record {
  some : 1 ≤ length l.word;
  few : length l.word ≤ 5;
  below : l.v < 10 ^ l.b-index;
  digits : all_digits (drop l.b-index l.word) ≡ all_digits l.word;
  spells : value_behind l.v (drop l.b-index l.word) ≡ value l.word;
}
