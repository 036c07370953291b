use Rattle.vital_cell.proofs.numbered_steps.path_step.Goals as goal

pub returns : goal.returns
returns c = record {
  signal = c.bit_of.ensures;
  delay = c.known_delay.ensures;
  condition = c.in_ok-numbered_truth.ensures;
}
