use Rattle.std.proofs.Common.{◌∙◌, sym}
use Rattle.vital_report.proofs.said.write_refusal.Goals as goal

pub returns-in-RefusedUsage-clause-puts : goal.returns-in-RefusedUsage-clause-puts
returns-in-RefusedUsage-clause-puts g c = rw c.in-RefusedUsage.is (rw (sym (c.fixed.ensures ∙ c.word.ensures)) c.write_line.ensures.puts)

pub returns-in-RefusedLexical-clause-puts : goal.returns-in-RefusedLexical-clause-puts
returns-in-RefusedLexical-clause-puts g c = rw c.in-RefusedLexical.is (rw (sym (c.fixed-in-RefusedLexical.ensures ∙ c.word-in-RefusedLexical.ensures)) c.write_line-in-RefusedLexical.ensures.puts)

pub returns-in-RefusedSyntax-clause-puts : goal.returns-in-RefusedSyntax-clause-puts
returns-in-RefusedSyntax-clause-puts g c = rw c.in-RefusedSyntax.is c.write_line-in-RefusedSyntax.ensures.puts

pub returns-in-RefusedLimit-clause-puts : goal.returns-in-RefusedLimit-clause-puts
returns-in-RefusedLimit-clause-puts g c = rw c.in-RefusedLimit.is (rw (sym (c.fixed-in-RefusedLimit.ensures ∙ c.word-in-RefusedLimit.ensures)) c.write_line-in-RefusedLimit.ensures.puts)

pub returns-in-RefusedLibrary-clause-puts : goal.returns-in-RefusedLibrary-clause-puts
returns-in-RefusedLibrary-clause-puts g c = rw c.in-RefusedLibrary.is (rw (sym (c.fixed-in-RefusedLibrary.ensures ∙ c.word-in-RefusedLibrary.ensures)) c.write_line-in-RefusedLibrary.ensures.puts)

pub returns-in-RefusedStimulus-clause-puts : goal.returns-in-RefusedStimulus-clause-puts
returns-in-RefusedStimulus-clause-puts g c = rw c.in-RefusedStimulus.is (rw (sym (c.fixed-in-RefusedStimulus.ensures ∙ c.word-in-RefusedStimulus.ensures)) (rw (sym c.text.ensures) (rw (sym c.number.ensures) c.write_line-in-RefusedStimulus.ensures.puts)))

pub returns-in-RefusedDelta-clause-puts : goal.returns-in-RefusedDelta-clause-puts
returns-in-RefusedDelta-clause-puts g c = rw c.in-RefusedDelta.is c.write_line-in-RefusedDelta.ensures.puts

pub returns-in-RefusedSdf-clause-puts : goal.returns-in-RefusedSdf-clause-puts
returns-in-RefusedSdf-clause-puts g c = rw c.in-RefusedSdf.is (rw (sym (c.fixed-in-RefusedSdf.ensures ∙ c.word-in-RefusedSdf.ensures)) c.write_line-in-RefusedSdf.ensures.puts)
