-- A queue and a vector as contracts see them: the row below, and where the elements lie in it.
use Rattle.containers.specs.declared.position.Position.{Position}
use Rattle.containers.specs.declared.extent.Extent.{Extent}

pub record QueueValue (R : Type 0) : Type 0 where
  pub row : R
  pub position : Position

pub record VecValue (R : Type 0) : Type 0 where
  pub row : R
  pub extent : Extent
