-- Faults, which are found without taking memory, as refusals.
use Rattle.cstn_element.specs.declared.errors.DocError.{DocError}
use Rattle.cstn_element.specs.declared.errors.DocError.TheVariants.{Shape, Value, LabelText, Contingent, EdgeType}
use Rattle.cstn_element.specs.declared.errors.Fault.{Fault}
use Rattle.cstn_element.specs.declared.errors.Fault.TheVariants.{Shape as ShapeFault, Value as ValueFault, LabelText as LabelTextFault, Contingent as ContingentFault, EdgeType as EdgeTypeFault}

abbrev pub document_refusal : Fault → DocError
document_refusal (ShapeFault at) = Shape at
document_refusal (ValueFault at) = Value at
document_refusal (LabelTextFault at) = LabelText at
document_refusal (ContingentFault at) = Contingent at
document_refusal (EdgeTypeFault at) = EdgeType at
