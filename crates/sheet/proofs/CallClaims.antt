-- What the results of `read` and `write` say besides the answer: it follows from the answer and the laws on sheets.
use Rattle.std.proofs.Common.{◌≡◌, refl, sym, ap, subst, ◌∙◌, ℕ, ◌≤◌, ◌<◌, List, length, take}
use Rattle.std.specs.Prelude.{Result, Ok, Err, ◌↔◌, IfOk, IfErr}
use Rattle.sheet.specs.Answers.{ReadAnswer, Refusal}
use Rattle.sheet.specs.Causes.{sheet_too_long}
use Rattle.sheet.specs.Limits.{max_bytes}
use Rattle.sheet.specs.Reading.{read_of}
use Rattle.sheet.specs.Results.{number, refusal_of, read_answer, write_answer}
use Rattle.sheet.specs.Writing.{Written}
use Rattle.sheet.specs.Same.{trimmed}
use Rattle.sheet.specs.RoundTrip.{SheetOf, WritesBack, ReadsAgain}
use Rattle.sheet.specs.FirstFault.{FirstFault}
use Rattle.sheet.specs.declared.Schedule.{Schedule}
use Rattle.sheet.specs.declared.causes.Refused.{Refused}
use Rattle.sheet.proofs.Results.{read_zero, read_answer_one}
use Rattle.sheet.proofs.RoundTrip.{read_sound, read_complete, writes_back, write_then_read}
use Rattle.sheet.proofs.FirstFault.{first_fault, first_fault_only, too_long_above, above_too_long}

module _ (s : List ℕ) (result : Result Schedule Refused) (answered : read_answer result ≡ read_of s) where
  refusal_is : (read_answer result).refusal ≡ (read_of s).refusal
  refusal_is = ap (λ (a : ReadAnswer). a.refusal) answered

  pub reads_each : (c : Schedule) → SheetOf s c → result ≡ Ok (trimmed c)
  reads_each c h = read_answer_one result (Ok (trimmed c)) (answered ∙ ap read_of h.text ∙ read_complete c h.passes)

  pub only_first : (r : Refusal) → length s ≤ max_bytes → FirstFault s r → (read_answer result).refusal ≡ r
  only_first r h f = refusal_is ∙ first_fault_only s r h f

  pub too_long : ((read_answer result).refusal ≡ sheet_too_long) ↔ (max_bytes < length s)
  too_long = (λ e. too_long_above s (sym refusal_is ∙ e), λ h. refusal_is ∙ above_too_long s h)

module _ (s : List ℕ) where
  pub has_its_bytes : (result : Result Schedule Refused) → read_answer result ≡ read_of s → IfOk result (λ c. SheetOf s c)
  has_its_bytes (Ok c) e = let z = read_zero c e in subst (SheetOf s) z.1 (read_sound s z.0)
  has_its_bytes (Err r) e = tt

  pub is_written_back : (result : Result Schedule Refused) → read_answer result ≡ read_of s → IfOk result (λ c. WritesBack s c)
  is_written_back (Ok c) e = writes_back s c (has_its_bytes (Ok c) e)
  is_written_back (Err r) e = tt

  pub tells_first : (result : Result Schedule Refused) → read_answer result ≡ read_of s → IfErr result (λ r. 2 ≤ number r.cause → FirstFault s (refusal_of r))
  tells_first (Ok c) e = tt
  tells_first (Err r) e = λ h. first_fault s (number r.cause) r.place (ap (λ (a : ReadAnswer). a.refusal) (sym e)) h

module _ (c : Schedule) (before after : List ℕ) where
  pub reads_again : (result : Result ℕ Refused) → Written c before after (write_answer result) → IfOk result (λ n. ReadsAgain c (take n after))
  reads_again (Ok n) w = write_then_read c before after (write_answer (Ok n)) w refl
  reads_again (Err r) w = tt
